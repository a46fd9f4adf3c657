-- Searches over the places below a number.
use Rattle.std.specs.Prelude.{Bool, true, false, ◌&&◌, ◌||◌, ℕ, zero, suc, max, ltb}

-- A place, or none.
pub data Place : Type 0 where
  nowhere : Place
  at : ℕ → Place

-- the one place, or the other where there is none
abbrev pub or_else : Place → Place → Place
or_else nowhere p = p
or_else (at i) p = at i

-- the place i where its test passed
abbrev pub if_here : Bool → ℕ → Place
if_here true i = at i
if_here false i = nowhere

-- the first place that passes the test
unfoldable pub first : (ℕ → Bool) → ℕ → Place
first test zero = nowhere
first test (suc k) = or_else (first test k) (if_here (test k) k)

-- whether the number at k is above that at a place
abbrev pub beats : (ℕ → ℕ) → ℕ → Place → Bool
beats f k nowhere = true
beats f k (at i) = ltb (f i) (f k)

-- the first place of the largest number among those that pass the test
unfoldable pub best : (ℕ → Bool) → (ℕ → ℕ) → ℕ → Place
best test f zero = nowhere
best test f (suc k) = let b = best test f k in or_else (if_here (test k && beats f k b) k) b

-- whether all pass the test
unfoldable pub all : (ℕ → Bool) → ℕ → Bool
all test zero = true
all test (suc k) = all test k && test k

-- whether some pass the test
unfoldable pub some : (ℕ → Bool) → ℕ → Bool
some test zero = false
some test (suc k) = some test k || test k

-- the largest number, 0 where there is none
unfoldable pub largest : (ℕ → ℕ) → ℕ → ℕ
largest f zero = 0
largest f (suc k) = max (largest f k) (f k)

-- a number where a test passes, else 0
abbrev pub only : Bool → ℕ → ℕ
only true n = n
only false n = 0
