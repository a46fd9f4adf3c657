-- Laws of the scans over a table's uses.
use Prim.Native.Nat.{ℕ, ◌+◌, ◌-◌, ◌/◌, max, ◌≤◌, ◌<◌}
use mathlib.Core.Path.{◌≡◌, refl, sym, ap, ◌∙◌}
use mathlib.Core.Bool.{Bool, cond}
use mathlib.Core.List.{List}
use native.Mathlib.Numerals.{add-one}
use native.Mathlib.Decide.{ℕ_discrete, dec_lt}
use native.Mathlib.Omega.{arith}
use lib.Dec.{eqb, ltb}
use lib.ListN.{get_or, length, set}
use lib.Seq.{get_or-set_same, get_or-set_other}
use borrow.Author.Tests.{eq-eqb, ne_eqb, lt-ltb, le-ltb}
use Rattle.searches.specs.Searches.{largest}
use Rattle.searches.proofs.Searching.{largest_more}
use Rattle.table.specs.declared.Shape.{Shape}
use Rattle.table.specs.WellFormed.{task_of, use_of, user_of, WellFormed}
use Rattle.table.proofs.Laws.{place_has}
use Rattle.equations.specs.Ready.{reaching_length, Longest}

-- ---- ceilings

-- the ceiling of r over the first k uses, which start at a place
abbrev pub ceiling_to : List ℕ → ℕ → ℕ → ℕ → ℕ
ceiling_to s start k r = largest (λ j. cond (eqb (use_of s start j).resource r) (use_of s start j).priority 0) k

pub ceilings_start : (s : List ℕ) (start r : ℕ) → 0 ≡ ceiling_to s start 0 r
unfolding largest
ceilings_start s start r = refl

-- with one use more, the ceiling of its resource is raised to its priority
pub ceilings_next : (s : List ℕ) (start k : ℕ) (found : List ℕ) (x new : ℕ) → length found ≡ 32 → ((r : ℕ) → r ≤ 16 → get_or found r 0 ≡ ceiling_to s start k r)
    → x ≡ (use_of s start k).resource → x ≤ 16 → new ≡ max (get_or found x 0) (use_of s start k).priority
    → (r : ℕ) → r ≤ 16 → get_or (set found x new) r 0 ≡ ceiling_to s start (k + 1) r
unfolding largest
ceilings_next s start k found x new size inv own few e r l = rw add-one (go (ℕ_discrete r x))
  where
    go : Dec (r ≡ x) → get_or (set found x new) r 0 ≡ max (ceiling_to s start k r) (cond (eqb (use_of s start k).resource r) (use_of s start k).priority 0)
    go (yes q) =
        rw (q, eq-eqb (use_of s start k).resource x (sym own))
        (get_or-set_same found x new 0 (omega arith) ∙ e ∙ ap (λ (y : ℕ). max y (use_of s start k).priority) (inv x few))
    go (no n) =
        rw (ne_eqb (use_of s start k).resource r (λ z. n (sym z ∙ sym own)))
        (get_or-set_other found x r new 0 n ∙ inv r l ∙ omega arith)

-- ---- uses by priority

-- a use has the priority of its task
pub use_priority : (s : List ℕ) (h : Shape) → WellFormed s h → (k : ℕ) → k < h.uses
    → (task_of s (user_of s h.tasks h.uses_at k)).priority ≡ (use_of s h.uses_at k).priority
use_priority s h w k l = place_has h.tasks s 0 (use_of s h.uses_at k).priority (omega (arith, w.owned k l))

-- later uses have no higher priority
pub uses_fall : (s : List ℕ) (h : Shape) → WellFormed s h → (j k : ℕ) → j ≤ k → k < h.uses
    → (use_of s h.uses_at k).priority ≤ (use_of s h.uses_at j).priority
uses_fall s h w j k l m = go (ℕ_discrete j k) (ℕ_discrete (user j) (user k))
  where
    user : ℕ → ℕ
    user i = user_of s h.tasks h.uses_at i

    go : Dec (j ≡ k) → Dec (user j ≡ user k) → (use_of s h.uses_at k).priority ≤ (use_of s h.uses_at j).priority
    go (yes e) d = rw e (omega arith)
    go (no n) (yes e) =
        omega (arith, use_priority s h w j (omega arith), use_priority s h w k m, ap (λ (i : ℕ). (task_of s i).priority) e)
    go (no n) (no d) =
        omega (
          arith,
          use_priority s h w j (omega arith),
          use_priority s h w k m,
          w.falling (user j) (user k) (omega (arith, w.in_order j k (omega arith) m)) (w.owned k m),
        )

-- what is known between halves: the first uses have at least the priority p, and those after so many more haven't
pub record Seeking (s : List ℕ) (start n p low size : ℕ) : Type 0 where
  pub within : low + size ≤ n
  pub before : (k : ℕ) → k < low → p ≤ (use_of s start k).priority
  pub after : (k : ℕ) → low + size ≤ k → k < n → (use_of s start k).priority < p

-- one half less
pub seeking_next : (s : List ℕ) (h : Shape) → WellFormed s h → (p low size : ℕ) → Seeking s h.uses_at h.uses p low size → 0 < size → (r : ℕ)
    → r ≡ cond (ltb (use_of s h.uses_at (low + (size + 1) / 2 - 1)).priority p) low (low + (size + 1) / 2) → Seeking s h.uses_at h.uses p r (size - (size + 1) / 2)
seeking_next s h w p low size g some r e = go (dec_lt (use_of s h.uses_at (low + (size + 1) / 2 - 1)).priority p)
  where
    go : Dec ((use_of s h.uses_at (low + (size + 1) / 2 - 1)).priority < p) → Seeking s h.uses_at h.uses p r (size - (size + 1) / 2)
    go (yes b) =
        let z : r ≡ low = e ∙ ap (λ (t : Bool). cond t low (low + (size + 1) / 2)) (lt-ltb (use_of s h.uses_at (low + (size + 1) / 2 - 1)).priority p b) in
        record {
          within = omega (arith, g.within);
          before = λ k l. g.before k (omega arith);
          after = λ k l m. omega (arith, uses_fall s h w (low + (size + 1) / 2 - 1) k (omega arith) m);
        }
    go (no b) =
        let z : r ≡ low + (size + 1) / 2
        = e ∙ ap (λ (t : Bool). cond t low (low + (size + 1) / 2)) (le-ltb (use_of s h.uses_at (low + (size + 1) / 2 - 1)).priority p (omega arith)) in
        record {
          within = omega (arith, g.within);
          before = λ k l. omega (arith, uses_fall s h w k (low + (size + 1) / 2 - 1) (omega arith) (omega (arith, g.within)));
          after = λ k l m. g.after k (omega arith) m;
        }

-- ---- the longest

-- with one use more
pub longest_next : (s ceilings : List ℕ) (start p first k best new : ℕ) → first ≤ k → Longest s ceilings start p first k best
    → new ≡ max best (reaching_length s ceilings start p k) → Longest s ceilings start p first (k + 1) new
longest_next s ceilings start p first k best new l h e f none is =
    e ∙ ap (λ (x : ℕ). max x (reaching_length s ceilings start p k)) (h f none (λ j a b. is j a (omega arith)))
    ∙ ap (max (largest f k)) (sym (is k l (omega arith))) ∙ sym (largest_more f k)
