-- A vector has one value per task, by place: its values, its order, its sum, and the test whether two are equal.
use Rattle.std.specs.Prelude.{List, [], ◌∷◌, Bool, true, false, ◌&&◌, ℕ, ◌+◌, ◌≤◌, get_or, eqb}

-- The value of the task j, and 0 past the end.
abbrev pub at : List ℕ → ℕ → ℕ
at v j = get_or v j 0

-- No value of v is above that of w.
infix 20 ◌⊑◌
abbrev pub ◌⊑◌ : List ℕ → List ℕ → Type 0
v ⊑ w = (j : ℕ) → at v j ≤ at w j

-- The values added up: what falls from round to round.
abbrev pub sum : List ℕ → ℕ
sum [] = 0
sum (x ∷ xs) = x + sum xs

-- Whether two vectors are equal.
abbrev pub same : List ℕ → List ℕ → Bool
same [] [] = true
same [] (y ∷ ys) = false
same (x ∷ xs) [] = false
same (x ∷ xs) (y ∷ ys) = eqb x y && same xs ys
