-- Checksums stay below 1,000,003.
use Rattle.std.proofs.Common.{ℕ, ◌<◌, List, [], ◌∷◌, arith}
use Rattle.harness.specs.Sums.{after_number, after_numbers}

-- one that is below it is below it still after the numbers of a list
pub numbers_reduced : (h : ℕ) (xs : List ℕ) → h < 1000003 → after_numbers h xs < 1000003
numbers_reduced h [] l = l
numbers_reduced h (x ∷ xs) l = numbers_reduced (after_number h x) xs (omega arith)
