-- Laws of sums over an index.
use Prim.Native.Nat.{ℕ, zero, suc, ◌+◌, ◌*◌, ◌≤◌, ◌<◌}
use mathlib.Core.Path.{◌≡◌, refl}
use native.Mathlib.Numerals.{add-one}
use native.Mathlib.Nat.{le_refl, add-suc, suc-mul}
use native.Mathlib.Decide.{ℕ_discrete}
use native.Mathlib.Omega.{arith}
use Rattle.searches.specs.Indexed.{sum_to}

module _ (f : ℕ → ℕ) where
  -- of nothing
  pub sum_to_none : (k : ℕ) → k ≡ 0 → sum_to f k ≡ 0
  unfolding sum_to
  sum_to_none k e = rw e

  -- of one more
  pub sum_to_more : (k : ℕ) → sum_to f (k + 1) ≡ sum_to f k + f k
  unfolding sum_to
  sum_to_more k = rw add-one

  -- from n on all alike
  pub sum_to_flat : (n d c : ℕ) → ((y : ℕ) → n ≤ y → y < n + d → f y ≡ c) → sum_to f (n + d) ≡ sum_to f n + d * c
  unfolding sum_to
  sum_to_flat n zero c h = let e : n + 0 ≡ n = omega arith in rw e (omega arith)
  sum_to_flat n (suc d) c h =
      rw (add-suc n d) (omega (arith, sum_to_flat n d c (λ y p q. h y p (omega arith)), h (n + d) (omega arith) (omega arith), suc-mul d c))

  -- all alike
  pub sum_to_alike : (k c : ℕ) → ((j : ℕ) → j < k → f j ≡ c) → sum_to f k ≡ k * c
  unfolding sum_to
  sum_to_alike zero c h = omega arith
  sum_to_alike (suc k) c h = omega (arith, sum_to_alike k c (λ j p. h j (omega arith)), h k (le_refl (suc k)), suc-mul k c)

  -- all bounded
  pub sum_to_most : (k c : ℕ) → ((j : ℕ) → j < k → f j ≤ c) → sum_to f k ≤ k * c
  unfolding sum_to
  sum_to_most zero c h = omega arith
  sum_to_most (suc k) c h = omega (arith, sum_to_most k c (λ j p. h j (omega arith)), h k (le_refl (suc k)), suc-mul k c)

module _ (f g : ℕ → ℕ) where
  -- equal at each place
  pub sum_to_same : (k : ℕ) → ((j : ℕ) → j < k → f j ≡ g j) → sum_to f k ≡ sum_to g k
  unfolding sum_to
  sum_to_same zero h = refl
  sum_to_same (suc k) h = omega (arith, sum_to_same k (λ j p. h j (omega arith)), h k (le_refl (suc k)))

  -- no larger at any place
  pub sum_to_mono : (k : ℕ) → ((j : ℕ) → j < k → f j ≤ g j) → sum_to f k ≤ sum_to g k
  unfolding sum_to
  sum_to_mono zero h = omega arith
  sum_to_mono (suc k) h = omega (arith, sum_to_mono k (λ j p. h j (omega arith)), h k (le_refl (suc k)))

  -- both together
  pub sum_to_add : (k : ℕ) → sum_to (λ j. f j + g j) k ≡ sum_to f k + sum_to g k
  unfolding sum_to
  sum_to_add zero = refl
  sum_to_add (suc k) = omega (arith, sum_to_add k)

  -- of which only the first i count
  pub sum_to_first : (i n : ℕ) → i ≤ n → ((j : ℕ) → j < i → g j ≡ f j) → ((j : ℕ) → i ≤ j → j < n → g j ≡ 0) → sum_to g n ≡ sum_to f i
  unfolding sum_to
  sum_to_first i zero l same none = let z : i ≡ 0 = omega arith in rw z
  sum_to_first i (suc n) l same none = go (ℕ_discrete i (suc n)) (λ b. sum_to_first i n b same (λ j p q. none j p (omega arith)))
    where
      go : Dec (i ≡ suc n) → (i ≤ n → sum_to g n ≡ sum_to f i) → sum_to g n + g n ≡ sum_to f i
      go (yes e) more = rw e (omega (arith, sum_to_same n (λ j p. omega (arith, same j (omega arith))), same n (omega arith)))
      go (no d) more = omega (arith, more (omega arith), none n (omega arith) (omega arith))

-- more add up to no less
pub sum_to_grows : (f : ℕ → ℕ) (k n : ℕ) → k ≤ n → sum_to f k ≤ sum_to f n
unfolding sum_to
sum_to_grows f k zero l = let z : k ≡ 0 = omega arith in rw z (omega arith)
sum_to_grows f k (suc n) l = go (ℕ_discrete k (suc n)) (sum_to_grows f k n)
  where
    go : Dec (k ≡ suc n) → (k ≤ n → sum_to f k ≤ sum_to f n) → sum_to f k ≤ sum_to f n + f n
    go (yes e) more = rw e (omega arith)
    go (no d) more = omega (arith, more (omega arith))

-- one of the numbers is no more than all of them
pub sum_to_at : (f : ℕ → ℕ) (k j : ℕ) → j < k → f j ≤ sum_to f k
unfolding sum_to
sum_to_at f k j lt = omega (arith, sum_to_grows f (suc j) k lt)

-- sums of sums change places
pub sum_to_swap : (f : ℕ → ℕ → ℕ) (k n : ℕ) → sum_to (λ x. sum_to (λ j. f j x) k) n ≡ sum_to (λ j. sum_to (f j) n) k
unfolding sum_to
sum_to_swap f k zero = omega (arith, sum_to_alike (λ j. 0) k 0 (λ j lt. refl))
sum_to_swap f k (suc n) = omega (arith, sum_to_add (λ j. sum_to (f j) n) (λ j. f j n) k, sum_to_swap f k n)
