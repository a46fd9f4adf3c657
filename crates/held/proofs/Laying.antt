-- The bytes of a list of tasks, a list of uses and the end: each record stands whole at its place, and reads back as what was written.
use Prim.Native.Nat.{ℕ, zero, suc, ◌+◌, ◌*◌, ◌/◌, ◌%◌, ◌^◌, ◌<◌, ◌≤◌}
use mathlib.Core.Path.{◌≡◌, refl, sym, ap, ◌∙◌}
use mathlib.Core.List.{List, [], ◌∷◌, ◌++◌, append_assoc}
use native.Mathlib.Numerals.{add-one}
use native.Mathlib.Nat.{mod-add-div, div-div-eq-div-mul}
use native.Mathlib.Omega.{arith}
use lib.ListN.{length, get_or, drop, length-append, drop_of_length-le}
use lib.Seq.{get_or-drop, drop-drop, drop_at, drop-cons}
use Rattle.table.specs.declared.Task.{Task}
use Rattle.table.specs.declared.Use.{Use}
use Rattle.table.specs.Fields.{word_at, task_at, use_at, no_task, no_use}
use Rattle.table.proofs.Laid.{Laid}
use Rattle.held.specs.Writing.{task_bytes, use_bytes, all}
use Rattle.held.specs.Trips.{TaskSized}

-- ---- a record at the front of the bytes

-- a word is its four bytes
pub word_back : (w : ℕ) → w < 2 ^ 32 → w % 256 + 256 * (w / 256 % 256) + 65536 * (w / 65536 % 256) + 16777216 * (w / 16777216 % 256) ≡ w
word_back w h =
    let a = mod-add-div w 256 in
    let b = mod-add-div (w / 256) 256 in
    let c = mod-add-div (w / 65536) 256 in
    let d = mod-add-div (w / 16777216) 256 in
    let second : w / 256 / 256 ≡ w / 65536 = div-div-eq-div-mul w 256 256 in
    let third : w / 65536 / 256 ≡ w / 16777216 = div-div-eq-div-mul w 65536 256 in
    let last : w / 16777216 / 256 ≡ 0 = omega arith in
    omega arith

task_front : (t : Task) (l : List ℕ) → TaskSized t → task_at (task_bytes t ++ l) 0 ≡ t
unfolding word_at
task_front t l z =
    rw (word_back t.run z.run, word_back t.sleep z.sleep, word_back t.deadline z.deadline, word_back t.period z.period)

use_front : (u : Use) (l : List ℕ) → u.length < 2 ^ 32 → use_at (use_bytes u ++ l) 0 ≡ u
unfolding word_at
use_front u l z = rw (word_back u.length z)

-- a record at a place is the record at the front of what is left there
module _ (s : List ℕ) (at : ℕ) where
  at_drop : (i : ℕ) → get_or s (at + i) 0 ≡ get_or (drop at s) (0 + i) 0
  at_drop i = let z : i ≡ 0 + i = omega arith in sym (get_or-drop at s i 0) ∙ ap (λ (k : ℕ). get_or (drop at s) k 0) z

  word_drop : (i : ℕ) → word_at s (at + i) ≡ word_at (drop at s) (0 + i)
  unfolding word_at
  word_drop i =
      let one : at + i + 1 ≡ at + (i + 1) = omega arith in
      let two : at + i + 2 ≡ at + (i + 2) = omega arith in
      let three : at + i + 3 ≡ at + (i + 3) = omega arith in
      let front-one : 0 + i + 1 ≡ 0 + (i + 1) = omega arith in
      let front-two : 0 + i + 2 ≡ 0 + (i + 2) = omega arith in
      let front-three : 0 + i + 3 ≡ 0 + (i + 3) = omega arith in
      cc (at_drop i, at_drop (i + 1), at_drop (i + 2), at_drop (i + 3))

  task_drop : task_at s at ≡ task_at (drop at s) 0
  task_drop = cc (at_drop 1, at_drop 2, at_drop 3, word_drop 4, word_drop 8, word_drop 12, word_drop 16)

  use_drop : use_at s at ≡ use_at (drop at s) 0
  use_drop = cc (at_drop 1, at_drop 2, at_drop 3, word_drop 4)

  kind_drop : get_or s at 0 ≡ get_or (drop at s) 0 0
  kind_drop = let z : at + 0 ≡ at = omega arith in ap (λ (k : ℕ). get_or s k 0) (sym z) ∙ sym (get_or-drop at s 0 0)

-- ---- records of one size, one after the other

module _ {A : Type 0} (e : A → List ℕ) (step : ℕ) (long : (x : A) → length (e x) ≡ step) (pos : ℕ → ℕ) (first : pos 0 ≡ 0) (on : (j : ℕ) → pos (j + 1) ≡ step + pos j) where
  -- what is left from record i on
  drop_all : (xs : List A) (rest : List ℕ) (i : ℕ) → i ≤ length xs → drop (pos i) (all e xs ++ rest) ≡ all e (drop i xs) ++ rest
  unfolding all
  drop_all xs rest zero h = ap (λ (k : ℕ). drop k (all e xs ++ rest)) first
  drop_all [] rest (suc i) h = absurd (omega arith)
  drop_all (x ∷ xs) rest (suc i) h =
      let p : pos (suc i) ≡ step + pos i = ap pos (sym (add-one i)) ∙ on i in
      ap (λ (k : ℕ). drop k ((e x ++ all e xs) ++ rest)) p
      ∙ sym (drop-drop (pos i) step ((e x ++ all e xs) ++ rest))
      ∙ ap (λ (l : List ℕ). drop (pos i) (drop step l)) (append_assoc (e x) (all e xs) rest)
      ∙ ap (drop (pos i)) (drop_at (e x) (all e xs ++ rest) step (long x))
      ∙ drop_all xs rest i (omega arith)

  -- record i stands at its place
  record_at_lem : (xs : List A) (rest : List ℕ) (d : A) (i : ℕ) → i < length xs → drop (pos i) (all e xs ++ rest) ≡ e (get_or xs i d) ++ (all e (drop (suc i) xs) ++ rest)
  unfolding all
  record_at_lem xs rest d i h =
      drop_all xs rest i (omega arith)
      ∙ ap (λ (l : List A). all e l ++ rest) (drop-cons xs i d h)
      ∙ append_assoc (e (get_or xs i d)) (all e (drop (suc i) xs)) rest

  -- past them all stands the rest
  rest_at : (xs : List A) (rest : List ℕ) → drop (pos (length xs)) (all e xs ++ rest) ≡ rest
  unfolding all
  rest_at xs rest =
      drop_all xs rest (length xs) (omega arith) ∙ ap (λ (l : List A). all e l ++ rest) (drop_of_length-le xs {i = length xs} (omega arith))

  length_all : (xs : List A) → length (all e xs) ≡ pos (length xs)
  unfolding all
  length_all [] = sym first
  length_all (x ∷ xs) =
      let p : pos (suc (length xs)) ≡ step + pos (length xs) = ap pos (sym (add-one (length xs))) ∙ on (length xs) in
      omega (arith, length-append (e x) (all e xs), long x, length_all xs)

-- ---- a whole table

module _ (ts : List Task) (us : List Use) where
  -- its bytes
  abbrev pub laid_out : List ℕ
  laid_out = all task_bytes ts ++ (all use_bytes us ++ 3 ∷ [])

  task_record : (i : ℕ) → i < length ts → drop (20 * i) laid_out ≡ task_bytes (get_or ts i no_task) ++ (all task_bytes (drop (suc i) ts) ++ (all use_bytes us ++ 3 ∷ []))
  task_record i h = record_at_lem task_bytes 20 (λ x. refl) (λ (k : ℕ). 20 * k) refl (λ j. omega arith) ts (all use_bytes us ++ 3 ∷ []) no_task i h

  past_tasks : drop (20 * length ts) laid_out ≡ all use_bytes us ++ 3 ∷ []
  past_tasks = rest_at task_bytes 20 (λ x. refl) (λ (k : ℕ). 20 * k) refl (λ j. omega arith) ts (all use_bytes us ++ 3 ∷ [])

  use_record : (j : ℕ) → j < length us → drop (20 * length ts + 8 * j) laid_out ≡ use_bytes (get_or us j no_use) ++ (all use_bytes (drop (suc j) us) ++ 3 ∷ [])
  use_record j h =
      sym (drop-drop (8 * j) (20 * length ts) laid_out) ∙ ap (drop (8 * j)) past_tasks
      ∙ record_at_lem use_bytes 8 (λ x. refl) (λ (k : ℕ). 8 * k) refl (λ i. omega arith) us (3 ∷ []) no_use j h

  end_record : drop (20 * length ts + 8 * length us) laid_out ≡ 3 ∷ []
  end_record =
      sym (drop-drop (8 * length us) (20 * length ts) laid_out) ∙ ap (drop (8 * length us)) past_tasks
      ∙ rest_at use_bytes 8 (λ x. refl) (λ (k : ℕ). 8 * k) refl (λ i. omega arith) us (3 ∷ [])

  -- whole records one after the other
  pub laid_out_lem : Laid laid_out (length ts) (length us)
  laid_out_lem = record {
    whole =
        omega (
          arith,
          length-append (all task_bytes ts) (all use_bytes us ++ 3 ∷ []),
          length-append (all use_bytes us) (3 ∷ []),
          length_all task_bytes 20 (λ x. refl) (λ (k : ℕ). 20 * k) refl (λ j. omega arith) ts,
          length_all use_bytes 8 (λ x. refl) (λ (k : ℕ). 8 * k) refl (λ j. omega arith) us,
        );
    task_kind = λ i h. kind_drop laid_out (20 * i) ∙ ap (λ (l : List ℕ). get_or l 0 0) (task_record i h);
    use_kind = λ j h. kind_drop laid_out (20 * length ts + 8 * j) ∙ ap (λ (l : List ℕ). get_or l 0 0) (use_record j h);
    end_kind = kind_drop laid_out (20 * length ts + 8 * length us) ∙ ap (λ (l : List ℕ). get_or l 0 0) end_record;
  }

  -- a task reads back as it was written
  pub task_back : (i : ℕ) → i < length ts → TaskSized (get_or ts i no_task) → task_at laid_out (20 * i) ≡ get_or ts i no_task
  task_back i h z = task_drop laid_out (20 * i) ∙ ap (λ (l : List ℕ). task_at l 0) (task_record i h) ∙ task_front (get_or ts i no_task) _ z

  -- and so does a use
  pub use_back : (j : ℕ) → j < length us → (get_or us j no_use).length < 2 ^ 32 → use_at laid_out (20 * length ts + 8 * j) ≡ get_or us j no_use
  use_back j h z =
      use_drop laid_out (20 * length ts + 8 * j) ∙ ap (λ (l : List ℕ). use_at l 0) (use_record j h) ∙ use_front (get_or us j no_use) _ z

  -- the priority of a use does so whatever its size
  pub use_priority : (j : ℕ) → j < length us → (use_at laid_out (20 * length ts + 8 * j)).priority ≡ (get_or us j no_use).priority
  use_priority j h = ap (λ (u : Use). u.priority) (use_drop laid_out (20 * length ts + 8 * j)) ∙ ap (λ (l : List ℕ). (use_at l 0).priority) (use_record j h)
