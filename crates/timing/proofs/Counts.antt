-- Counts of ticks.
use Prim.Native.Nat.{ℕ, zero, suc, ◌+◌, ◌≤◌, ◌<◌}
use mathlib.Core.Path.{◌≡◌, refl, ap}
use mathlib.Core.Bool.{Bool, true, false}
use mathlib.Core.Logic.{◌⊎◌, inl, inr}
use native.Mathlib.Nat.{add-suc}
use native.Mathlib.Omega.{arith}
use native.Mathlib.Decide.{dec_lt}
use Rattle.searches.specs.Searches.{only}
use Rattle.searches.specs.Indexed.{sum_to}
use Rattle.searches.proofs.Sums.{sum_to_most, sum_to_swap}
use Rattle.timing.specs.Statement.{count}

-- where a tick counts the test passed
pub counted : (c : Bool) → 0 < only c 1 → c ≡ true
counted true h = refl
counted false h = absurd (omega arith)

module _ (f : ℕ → ℕ) where
  -- a window in two parts
  pub count_split : (u a b : ℕ) → count f u (a + b) ≡ count f u a + count f (u + a) b
  unfolding sum_to
  count_split u a zero = let e : a + 0 ≡ a = omega arith in rw e (omega arith)
  count_split u a (suc b) =
      let e : f (u + (a + b)) ≡ f (u + a + b) = ap f (omega arith) in
      rw (add-suc a b) (omega (arith, count_split u a b, e))

  -- one tick more
  pub count_more : (u n : ℕ) → count f u (suc n) ≡ count f u n + f (u + n)
  unfolding sum_to
  count_more u n = refl

  -- no tick
  pub count_none : (u : ℕ) → count f u 0 ≡ 0
  unfolding sum_to
  count_none u = refl

  -- one for a tick at most
  pub count_most : (u n : ℕ) → ((t : ℕ) → f t ≤ 1) → count f u n ≤ n
  count_most u n h = omega (arith, sum_to_most (λ x. f (u + x)) n 1 (λ x lt. h (u + x)))

  -- the first tick that counts
  pub find : (u n : ℕ) → (count f u n ≡ 0) ⊎ ((x : ℕ) × (x < n) × (0 < f (u + x)) × (count f u x ≡ 0))
  unfolding sum_to
  find u zero = inl refl
  find u (suc n) = go (find u n) (dec_lt 0 (f (u + n)))
    where
      go : (count f u n ≡ 0) ⊎ ((x : ℕ) × (x < n) × (0 < f (u + x)) × (count f u x ≡ 0)) → Dec (0 < f (u + n))
          → (count f u n + f (u + n) ≡ 0) ⊎ ((x : ℕ) × (x < suc n) × (0 < f (u + x)) × (count f u x ≡ 0))
      go (inr w) d = inr (w.0, omega (arith, w.1), w.2, w.3)
      go (inl z) (yes p) = inr (n, omega arith, p, z)
      go (inl z) (no p) = inl (omega arith)

  -- a count is that of its part up to the last tick that counts
  pub to_last : (b u n : ℕ) → ((x : ℕ) → x < n → 0 < f (u + x) → count f u (suc x) ≤ b) → count f u n ≤ b
  unfolding sum_to
  to_last b u zero h = omega arith
  to_last b u (suc n) h = go (dec_lt 0 (f (u + n))) (to_last b u n (λ x lt. h x (omega arith)))
    where
      go : Dec (0 < f (u + n)) → count f u n ≤ b → count f u n + f (u + n) ≤ b
      go (yes p) more = h n (omega arith) p
      go (no p) more = omega arith

-- a count and a sum change places
pub exchange : (g : ℕ → ℕ → ℕ) (k u n : ℕ) → count (λ t. sum_to (λ j. g j t) k) u n ≡ sum_to (λ j. count (g j) u n) k
exchange g k u n = sum_to_swap (λ j x. g j (u + x)) k n
