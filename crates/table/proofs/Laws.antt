-- Laws of the definitions that the functions' proofs cite.
use Prim.Native.Nat.{ℕ, zero, suc, ◌+◌, ◌*◌, ◌≤◌, ◌<◌}
use mathlib.Core.Path.{◌≡◌, refl, sym, ap, subst, ◌∙◌}
use mathlib.Core.Bool.{Bool, true, false, cond}
use mathlib.Core.List.{List}
use lib.Dec.{eqb}
use lib.ListN.{get_or, length, get_or-eq_default}
use native.Mathlib.Omega.{arith}
use native.Mathlib.Decide.{ℕ_discrete}
use borrow.Author.Tests.{eq-eqb, ne_eqb, eqb-true}
use Rattle.table.specs.Fields.{word_at, no_task, no_use, task_at, use_at}
use Rattle.std.specs.Prelude.{Result, Ok, Err}
use Rattle.table.specs.declared.Refusal.{Refusal}
use Rattle.table.specs.declared.walk.Walk.{Walk}
use Rattle.table.specs.Rules.{Ruling, stands, place_from}
use Rattle.table.specs.Reading.{ruled}
use Rattle.table.specs.Sound.{Sound, Stepped, sound_next}

-- ---- past the end all bytes read as 0
module _ (s : List ℕ) (i : ℕ) (past : length s ≤ i) where
  byte_past : (k : ℕ) → get_or s (i + k) 0 ≡ 0
  byte_past k = get_or-eq_default s 0 (omega arith)

  word_past_by : (k : ℕ) → word_at s (i + k) ≡ 0
  unfolding word_at
  word_past_by k =
      let a = byte_past k in
      let b = get_or-eq_default s 0 {n = i + k + 1} (omega arith) in
      let c = get_or-eq_default s 0 {n = i + k + 2} (omega arith) in
      let d = get_or-eq_default s 0 {n = i + k + 3} (omega arith) in
      omega arith

  pub word_past : word_at s i ≡ 0
  unfolding word_at
  word_past =
      let a = get_or-eq_default s 0 {n = i} past in
      let b = byte_past 1 in
      let c = byte_past 2 in
      let d = byte_past 3 in
      omega arith

  pub task_past : no_task ≡ task_at s i
  task_past = cc (byte_past 1, byte_past 2, byte_past 3, word_past_by 4, word_past_by 8, word_past_by 12, word_past_by 16)

  pub use_past : no_use ≡ use_at s i
  use_past = cc (byte_past 1, byte_past 2, byte_past 3, word_past_by 4)

-- ---- the search for a task's place
-- the place that is found is one of those searched, or just past them
pub place_within : (k : ℕ) (s : List ℕ) (i p : ℕ) → (i ≤ place_from k s i p) × (place_from k s i p ≤ i + k)
unfolding place_from
place_within zero s i p = (omega arith, omega arith)
place_within (suc k) s i p = go (eqb (get_or s (20 * i + 1) 0) p) (place_within k s (i + 1) p)
  where
    go : (b : Bool) → (i + 1 ≤ place_from k s (i + 1) p) × (place_from k s (i + 1) p ≤ i + 1 + k)
        → (i ≤ cond b i (place_from k s (i + 1) p)) × (cond b i (place_from k s (i + 1) p) ≤ i + suc k)
    go true r = (omega arith, omega arith)
    go false r = (omega arith, omega arith)

-- a place that is found by the code
pub place_most : (k : ℕ) (s : List ℕ) (i p r : ℕ) → r ≡ place_from k s i p → r ≤ i + k
place_most k s i p r e = omega (arith, place_within k s i p)

-- what is found has the priority
pub place_has : (k : ℕ) (s : List ℕ) (i p : ℕ) → place_from k s i p < i + k → get_or s (20 * place_from k s i p + 1) 0 ≡ p
unfolding place_from
place_has zero s i p h = absurd (omega arith)
place_has (suc k) s i p h = go (eqb (get_or s (20 * i + 1) 0) p) refl h (place_has k s (i + 1) p)
  where
    go : (b : Bool) → eqb (get_or s (20 * i + 1) 0) p ≡ b → cond b i (place_from k s (i + 1) p) < i + suc k
        → (place_from k s (i + 1) p < i + 1 + k → get_or s (20 * place_from k s (i + 1) p + 1) 0 ≡ p) → get_or s (20 * cond b i (place_from k s (i + 1) p) + 1) 0 ≡ p
    go true e h more = eqb-true (get_or s (20 * i + 1) 0) p e
    go false e h more = more (omega arith)

-- a place that has the priority, with none before it that has, is the one that is found
pub place_reached : (k : ℕ) (s : List ℕ) (i p m : ℕ) → i ≤ m → m < i + k → get_or s (20 * m + 1) 0 ≡ p
    → ((n : ℕ) → i ≤ n → n < m → get_or s (20 * n + 1) 0 ≡ p → ⊥) → place_from k s i p ≡ m
unfolding place_from
place_reached zero s i p m a b e f = absurd (omega arith)
place_reached (suc k) s i p m a b e f = go (ℕ_discrete i m) (λ l r. place_reached k s (i + 1) p m l r e (λ n h. f n (omega arith)))
  where
    go : Dec (i ≡ m) → (i + 1 ≤ m → m < i + 1 + k → place_from k s (i + 1) p ≡ m) → cond (eqb (get_or s (20 * i + 1) 0) p) i (place_from k s (i + 1) p) ≡ m
    go (yes q) more = rw (eq-eqb (get_or s (20 * i + 1) 0) p (ap (λ (n : ℕ). get_or s (20 * n + 1) 0) q ∙ e)) q
    go (no n) more = rw (ne_eqb (get_or s (20 * i + 1) 0) p (f i (omega arith) (omega arith))) (more (omega arith) (omega arith))

pub place_first : (k : ℕ) (s : List ℕ) (i p m : ℕ) → i ≤ m → m < i + k → get_or s (20 * m + 1) 0 ≡ p
    → ((n : ℕ) → n < m → get_or s (20 * n + 1) 0 ≡ p → ⊥) → place_from k s i p ≡ m
place_first k s i p m a b e f = place_reached k s i p m a b e (λ n h. f n)

-- where none has it, the place is past them all
pub place_none : (k : ℕ) (s : List ℕ) (i p : ℕ) → ((n : ℕ) → i ≤ n → n < i + k → get_or s (20 * n + 1) 0 ≡ p → ⊥) → place_from k s i p ≡ i + k
unfolding place_from
place_none zero s i p f = omega arith
place_none (suc k) s i p f =
    let more = place_none k s (i + 1) p (λ n a b. f n (omega arith) (omega arith)) in
    rw (ne_eqb (get_or s (20 * i + 1) 0) p (f i (omega arith) (omega arith))) (omega arith)

-- ---- a step by a rule: on where the rule passes the record, else its refusal
pub ruled_step : (s : List ℕ) (w : Walk) (meant r : Result Walk Refusal) (k : Ruling) (place : ℕ) (n : Walk) → r ≡ ruled k place n → meant ≡ ruled k place n
    → (k ≡ stands → Sound s n × (w.at < n.at)) → Stepped s w meant r
ruled_step s w meant r k place n e f g = record { same = e ∙ sym f; sound = subst (sound_next s w) (sym e) (go k refl) }
  where
    go : (x : Ruling) → k ≡ x → sound_next s w (ruled x place n)
    go (Ok tt) q = g q
    go (Err y) q = tt
