-- The answer of an accepted table's analysis, put together.
use Prim.Native.Nat.{ℕ, ◌+◌, ◌-◌, ◌≤◌, ◌<◌}
use Rattle.std.specs.Prelude.{None, Ok}
use mathlib.Core.Path.{◌≡◌, sym, ap, subst, ◌∙◌}
use mathlib.Core.Bool.{Bool, false}
use mathlib.Core.List.{List, ◌++◌}
use native.Mathlib.Omega.{arith}
use lib.ListN.{get_or, length, drop, replicate, length-replicate, replicate-append-replicate}
use lib.Seq.{drop_at}
use Rattle.searches.specs.Searches.{all}
use Rattle.searches.specs.Indexed.{every}
use Rattle.searches.proofs.Searching.{all_same}
use Rattle.searches.proofs.Indexed.{same_at, filled_is}
use Rattle.table.specs.declared.Shape.{Shape}
use Rattle.table.specs.declared.Why.TheVariants.{Allowance}
use Rattle.table.specs.WellFormed.{WellFormed}
use Rattle.rounds.specs.Rounds.{Progress, analysis, answer}
use Rattle.rounds.proofs.AllowanceLaws.{within_allowed, beyond_refused}
use Rattle.equations.specs.View.{own_settings}
use Rattle.analysis.specs.declared.Analysis.{Analysis}
use Rattle.analysis.specs.Rounding.{bounded, Marks, Final}
use Rattle.analysis.specs.Analysing.{own_system, refused_by, verdict_of, analysed_as}
use Rattle.analysis.proofs.Table.{equations_of, table_size}

-- no task is marked yet
pub marks_start : (n : ℕ) → Marks n (replicate 32 false)
marks_start n = λ j l. same_at false 32 j

-- what is left of an array of zeros
pub zeros_left : (n : ℕ) → n ≤ 32 → drop {A = ℕ} n (replicate 32 0) ≡ replicate (32 - n) 0
zeros_left n l =
    let e : n + (32 - n) ≡ 32 = omega arith in
    ap (λ (k : ℕ). drop {A = ℕ} n (replicate k 0)) (sym e)
    ∙ ap (drop {A = ℕ} n) (sym (replicate-append-replicate {A = ℕ} n (32 - n) 0))
    ∙ drop_at {A = ℕ} (replicate n 0) (replicate (32 - n) 0) n (length-replicate {A = ℕ} n 0)

-- marks that are those of f for n tasks
marks_are : (n : ℕ) (f : ℕ → Bool) (b : List Bool) → n ≤ 32 → length b ≡ 32 → Marks n b → ((i : ℕ) → i < n → get_or b i false ≡ f i) → b ≡ every f n 0 ++ replicate (32 - n) false
marks_are n f b l sized m h = filled_is f false 32 n b l sized h (λ i p q. m i p)

module _ (s : List ℕ) (h : Shape) (w : WellFormed s h) (allowance : ℕ) (settings : List ℕ) (own : settings ≡ own_settings s h.tasks) where
  -- the total is above the allowance
  pub spent_is : (a : Analysis) → a ≡ refused_by (record { why = Allowance; place = 0 }) → allowance < (analysis (equations_of s h settings)).evaluations
      → a ≡ analysed_as (Ok h) s allowance
  unfolding analysed_as
  spent_is a e f =
      rw (beyond_refused (own_system s h) allowance (subst (λ (x : List ℕ). allowance < (analysis (equations_of s h x)).evaluations) own f)) e

  -- it is within
  pub done_is : (v : List ℕ) (b : List Bool) (total : ℕ) → length b ≡ 32 → Marks h.tasks b → Final allowance (equations_of s h settings) v b total
      → (values : List ℕ) (verdict : Bool) → values ≡ v ++ drop h.tasks (replicate 32 0) → verdict ≡ all (λ i. get_or b i false) h.tasks
      → record { refusal = None; tasks = h.tasks; verdict = verdict; evaluations = total; values = values; bounds = b } ≡ analysed_as (Ok h) s allowance
  unfolding analysed_as
  done_is v b total long m given values verdict e o =
      let final : Final allowance (own_system s h) v b total = subst (λ (x : List ℕ). Final allowance (equations_of s h x) v b total) own given in
      let count : total ≡ (analysis (own_system s h)).evaluations = ap (λ (p : Progress). p.evaluations) final.done in
      let vector : v ≡ (analysis (own_system s h)).vector = ap (λ (p : Progress). p.vector) final.done in
      let whole : values ≡ (analysis (own_system s h)).vector ++ replicate (32 - h.tasks) 0 =
      e ∙ ap (λ (x : List ℕ). v ++ x) (zeros_left h.tasks w.tasks_most) ∙ ap (λ (x : List ℕ). x ++ replicate (32 - h.tasks) 0) vector in
      let each : (i : ℕ) → i < h.tasks → get_or b i false ≡ bounded (answer (own_system s h) i) =
      λ i l. final.bounds_are i (rw (table_size s h (own_settings s h.tasks) w) l) in
      let marks = marks_are h.tasks (λ i. bounded (answer (own_system s h) i)) b w.tasks_most long m each in
      let said : verdict ≡ verdict_of s h = o ∙ all_same (λ i. get_or b i false) (λ i. bounded (answer (own_system s h) i)) h.tasks each in
      rw (within_allowed (own_system s h) allowance (omega (arith, final.counted)), count, whole, marks, said)
