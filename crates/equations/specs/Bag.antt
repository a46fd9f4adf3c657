-- A bag of section lengths, some of them repeated, and the sum of the x largest in it.
use Rattle.std.specs.Prelude.{ℕ, zero, suc, cond, List, [], ◌∷◌, ◌++◌, leb, take, replicate}
use Rattle.rounds.specs.Vector.{sum}

-- the lengths of k uses, each as often as it is repeated
unfoldable pub bag_to : ℕ → (ℕ → ℕ) → (ℕ → ℕ) → List ℕ
bag_to zero length repeats = []
bag_to (suc k) length repeats = replicate (repeats k) (length k) ++ bag_to k length repeats

-- a bag sorted downwards: a put at its place
abbrev pub insert : ℕ → List ℕ → List ℕ
insert a [] = a ∷ []
insert a (b ∷ l) = cond (leb b a) (a ∷ b ∷ l) (b ∷ insert a l)

abbrev pub downwards : List ℕ → List ℕ
downwards [] = []
downwards (a ∷ l) = insert a (downwards l)

-- Σ(x): the sum of the x largest, or of all if there are fewer
unfoldable pub sum_of_largest : ℕ → List ℕ → ℕ
sum_of_largest x bag = sum (take x (downwards bag))
