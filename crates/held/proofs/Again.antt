-- The records of an accepted table, laid out one after the other, are its bytes.
use Prim.Native.Nat.{ℕ, zero, suc, ◌+◌, ◌*◌, ◌/◌, ◌%◌, ◌<◌, ◌≤◌}
use mathlib.Core.Path.{◌≡◌, sym, ap, ◌∙◌}
use mathlib.Core.List.{List, [], ◌∷◌, ◌++◌, append_assoc}
use native.Mathlib.Nat.{add-zero}
use native.Mathlib.Omega.{arith}
use lib.ListN.{length, get_or, take, drop, length-drop, take-append-drop, drop_of_length-le}
use lib.Seq.{get_or-drop, drop-cons, drop-drop}
use Rattle.searches.specs.Indexed.{every}
use Rattle.searches.proofs.Indexed.{every_same, every_take}
use Rattle.table.specs.declared.Shape.{Shape}
use Rattle.table.specs.Fields.{word_at, task_at, use_at}
use Rattle.table.specs.WellFormed.{task_of, use_of, WellFormed}
use Rattle.held.specs.Writing.{word_bytes, task_bytes, use_bytes, all}
use Rattle.held.proofs.Laying.{laid_out}

-- a part of a list, element by element
part_every : (s : List ℕ) (at k : ℕ) → at + k ≤ length s → take k (drop at s) ≡ every (λ (j : ℕ). get_or s (at + j) 0) k 0
part_every s at k h =
    sym (every_take (drop at s) 0 k 0 (omega (arith, length-drop at s)))
    ∙ every_same (λ (j : ℕ). get_or (drop at s) j 0) (λ (j : ℕ). get_or s (at + j) 0) k 0 (λ j l. get_or-drop at s j 0)

-- the low byte of a number, and what is above it
low : (a q : ℕ) → a < 256 → (a + 256 * q) % 256 ≡ a
low a q h = omega arith

-- four bytes are the word's
word_bytes_lem : (a b c d : ℕ) → a < 256 → b < 256 → c < 256 → d < 256 → word_bytes (a + 256 * b + 65536 * c + 16777216 * d) ≡ a ∷ b ∷ c ∷ d ∷ []
word_bytes_lem a b c d ha hb hc hd =
    let w = a + 256 * b + 65536 * c + 16777216 * d in
    let first : w ≡ a + 256 * (b + 256 * (c + 256 * d)) = omega arith in
    let second : w / 256 ≡ b + 256 * (c + 256 * d) = omega arith in
    let third : w / 65536 ≡ c + 256 * d = omega arith in
    let fourth : w / 16777216 ≡ d + 256 * 0 = omega arith in
    cc (
      ap (λ (n : ℕ). n % 256) first ∙ low a (b + 256 * (c + 256 * d)) ha,
      ap (λ (n : ℕ). n % 256) second ∙ low b (c + 256 * d) hb,
      ap (λ (n : ℕ). n % 256) third ∙ low c d hc,
      ap (λ (n : ℕ). n % 256) fourth ∙ low d 0 hd,
    )

module _ (s : List ℕ) (bytes : (i : ℕ) → get_or s i 0 < 256) where
  word_bytes_at : (at j : ℕ) → word_bytes (word_at s (at + j)) ≡ get_or s (at + j) 0 ∷ get_or s (at + (j + 1)) 0 ∷ get_or s (at + (j + 2)) 0 ∷ get_or s (at + (j + 3)) 0 ∷ []
  unfolding word_at
  word_bytes_at at j =
      let one : at + j + 1 ≡ at + (j + 1) = omega arith in
      let two : at + j + 2 ≡ at + (j + 2) = omega arith in
      let three : at + j + 3 ≡ at + (j + 3) = omega arith in
      word_bytes_lem (get_or s (at + j) 0) (get_or s (at + j + 1) 0) (get_or s (at + j + 2) 0) (get_or s (at + j + 3) 0) (bytes _) (bytes _) (bytes _) (bytes _) ∙ cc

  -- a task's record is its 20 bytes
  pub task_bytes_lem : (at : ℕ) → at + 20 ≤ length s → get_or s at 0 ≡ 1 → task_bytes (task_at s at) ≡ take 20 (drop at s)
  unfolding every
  task_bytes_lem at h k =
      let z : at + 0 ≡ at = omega arith in
      cc (part_every s at 20 h, k, z, word_bytes_at at 4, word_bytes_at at 8, word_bytes_at at 12, word_bytes_at at 16)

  -- and a use's its 8
  pub use_bytes_lem : (at : ℕ) → at + 8 ≤ length s → get_or s at 0 ≡ 2 → use_bytes (use_at s at) ≡ take 8 (drop at s)
  unfolding every
  use_bytes_lem at h k =
      let z : at + 0 ≡ at = omega arith in
      cc (part_every s at 8 h, k, z, word_bytes_at at 4)

-- what each record is of the bytes, all are
module _ {A : Type 0} (e : A → List ℕ) (f : ℕ → A) (s : List ℕ) (pos : ℕ → ℕ) (step : ℕ) (on : (j : ℕ) → pos (j + 1) ≡ pos j + step) where
  side_by_side : (k i : ℕ) → ((j : ℕ) → j < i + k → e (f j) ≡ take step (drop (pos j) s)) → all e (every f k i) ++ drop (pos (i + k)) s ≡ drop (pos i) s
  unfolding every all
  side_by_side zero i g = rw add-zero
  side_by_side (suc k) i g =
      let n : i + suc k ≡ i + 1 + k = omega arith in
      let d : drop (pos (i + 1)) s ≡ drop step (drop (pos i) s) = ap (λ (a : ℕ). drop a s) (on i) ∙ sym (drop-drop step (pos i) s) in
      append_assoc (e (f i)) (all e (every f k (i + 1))) (drop (pos (i + suc k)) s)
      ∙ ap (λ (a : ℕ). e (f i) ++ (all e (every f k (i + 1)) ++ drop (pos a) s)) n
      ∙ ap (λ (l : List ℕ). e (f i) ++ l) (side_by_side k (i + 1) (λ j h. g j (omega arith)) ∙ d)
      ∙ ap (λ (l : List ℕ). l ++ drop step (drop (pos i) s)) (g i (omega arith))
      ∙ take-append-drop step (drop (pos i) s)

-- the records of an accepted table, laid out, are its bytes
pub laid_again : (s : List ℕ) → ((i : ℕ) → get_or s i 0 < 256) → (h : Shape) → WellFormed s h
    → laid_out (every (task_of s) h.tasks 0) (every (use_of s h.uses_at) h.uses 0) ≡ s
laid_again s bytes h w =
    let n = h.tasks in
    let m = h.uses in
    let b = h.uses_at in
    let tasks = side_by_side task_bytes (task_of s) s (λ (i : ℕ). 20 * i) 20 (λ j. omega arith) n 0
    (λ j l. task_bytes_lem s bytes (20 * j) (omega (arith, w.whole, w.start)) (w.task_kind j (omega arith))) in
    let uses = side_by_side use_bytes (use_of s b) s (λ (j : ℕ). b + 8 * j) 8 (λ j. omega arith) m 0
    (λ j l. use_bytes_lem s bytes (b + 8 * j) (omega (arith, w.whole)) (w.use_kind j (omega arith))) in
    let end : drop (b + 8 * m) s ≡ 3 ∷ [] =
    drop-cons s (b + 8 * m) 0 (omega (arith, w.whole)) ∙ ap (λ (x : ℕ). x ∷ drop (suc (b + 8 * m)) s) w.end_kind
    ∙ ap (λ (l : List ℕ). 3 ∷ l) (drop_of_length-le s {i = suc (b + 8 * m)} (omega (arith, w.whole))) in
    let z₁ : 20 * (0 + n) ≡ b = omega (arith, w.start) in
    let z₂ : b + 8 * (0 + m) ≡ b + 8 * m = omega arith in
    let z₃ : b + 8 * 0 ≡ b = omega arith in
    cc (tasks, uses, end)
