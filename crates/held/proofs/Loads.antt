-- What loading answers, by what the bytes are read as.
use Prim.Native.Nat.{ℕ, ◌-◌, ◌≤◌}
use mathlib.Core.Path.{◌≡◌, sym, ap, ◌∙◌}
use mathlib.Core.List.{List, ◌++◌}
use lib.ListN.{length, take, drop, replicate}
use lib.Seq.{length-take-le}
use Rattle.std.proofs.lemmas.List.{drop-replicate, length-replicate}
use Rattle.std.specs.Result.{ResultUnwrapsOrElse}
use Rattle.searches.specs.Indexed.{every}
use Rattle.searches.proofs.Indexed.{every_same}
use native.Mathlib.Omega.{arith}
use Rattle.table.specs.declared.Shape.{Shape}
use Rattle.std.specs.Prelude.{Ok, Err}
use Rattle.table.specs.Reading.{Reading, read_table}
use Rattle.table.proofs.Accepted.{well_formed}
use Rattle.held.specs.Loading.{filled_by, held_by}

-- a list that is filled up to a count, behind which stands what stood there
pub filled_up : {A : Type 0} (f g : ℕ → A) (none x : A) (total k : ℕ) (out : List A) → ((j : ℕ) → g j ≡ f j) → x ≡ none → k ≤ total
    → out ≡ every g (length (take k (replicate total x))) 0 → out ++ drop k (replicate total x) ≡ every f k 0 ++ replicate (total - k) none
filled_up f g none x total k out same e h q =
    let n : length (take k (replicate total x)) ≡ k = length-take-le k (replicate total x) (omega (arith, length-replicate total x)) in
    ap (λ (l : List _). l ++ drop k (replicate total x)) (q ∙ ap (λ (j : ℕ). every g j 0) n ∙ every_same g f k 0 (λ j l. same j))
    ∙ ap (λ (l : List _). every f k 0 ++ l) (drop-replicate k total x ∙ ap (replicate (total - k)) e)

-- the counts and the start of an accepted table's uses fit a held table
pub counts_fit : (s : List ℕ) (h : Shape) → read_table s ≡ Ok h → (h.tasks ≤ 32) × (h.uses_at ≤ 640) × (h.uses ≤ 512)
counts_fit s h e = let w = well_formed s h e in (w.tasks_most, omega (arith, w.tasks_most, w.start), w.uses_most)

-- the table that accepted bytes hold
pub held_accepted : (s : List ℕ) (h : Shape) → read_table s ≡ Ok h → held_by (read_table s) s ≡ filled_by s h.tasks h.uses_at h.uses
unfolding held_by
held_accepted s h e = ap (λ (x : Reading). held_by x s) e

-- the shape that is loaded, which is all zeros where the bytes are refused: it fits a held table, and gives the one that is meant
pub record Loads (s : List ℕ) (h : Shape) : Type 0 where
  pub fits : (h.tasks ≤ 32) × (h.uses_at ≤ 640) × (h.uses ≤ 512)
  pub same : filled_by s h.tasks h.uses_at h.uses ≡ held_by (read_table s) s

pub loads : (s : List ℕ) (r : Reading) (h : Shape) (P : Shape → Type 0) → r ≡ read_table s → ResultUnwrapsOrElse r P h
    → (P h → (h.tasks ≡ 0) × (h.uses_at ≡ 0) × (h.uses ≡ 0)) → Loads s h
unfolding held_by
loads s (Ok a) h P e u z = record {
  fits = counts_fit s h (sym e ∙ ap Ok (sym u));
  same = sym (held_accepted s h (sym e ∙ ap Ok (sym u)));
}
loads s (Err f) h P e u z =
    let n = z u in
    record { fits = (omega arith, omega arith, omega arith); same = rw (n.0, n.1, n.2) (ap (λ (x : Reading). held_by x s) e) }
