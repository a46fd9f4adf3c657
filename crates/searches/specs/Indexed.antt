-- Sums and lists over an index.
use Rattle.std.specs.Prelude.{ℕ, zero, suc, ◌+◌, List, [], ◌∷◌}

-- f 0 + .. + f (k - 1)
unfoldable pub sum_to : (ℕ → ℕ) → ℕ → ℕ
sum_to f zero = 0
sum_to f (suc k) = sum_to f k + f k

-- f i, f (i + 1) and so on, k of them
unfoldable pub every : {A : Type 0} → (ℕ → A) → ℕ → ℕ → List A
every f zero i = []
every f (suc k) i = f i ∷ every f k (i + 1)
