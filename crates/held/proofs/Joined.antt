-- The records of two lists joined.
use Prim.Native.Nat.{ℕ}
use mathlib.Core.Path.{◌≡◌, refl, sym, ap, ◌∙◌}
use mathlib.Core.List.{List, [], ◌∷◌, ◌++◌, append_assoc}
use Rattle.held.specs.Writing.{all}

-- are those of the one behind those of the other
pub all_append : {A : Type 0} (e : A → List ℕ) (xs ys : List A) → all e (xs ++ ys) ≡ all e xs ++ all e ys
unfolding all
all_append e [] ys = refl
all_append e (x ∷ xs) ys = ap (λ (l : List ℕ). e x ++ l) (all_append e xs ys) ∙ sym (append_assoc (e x) (all e xs) (all e ys))
