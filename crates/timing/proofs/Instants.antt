-- Calls along the instants of a clock.
use Prim.Native.Nat.{ℕ, zero, suc, ◌≤◌, ◌<◌}
use mathlib.Core.Path.{◌≡◌, ap}
use native.Mathlib.Omega.{arith}
use native.Mathlib.Decide.{dec_le, dec_lt}
use Rattle.timing.specs.Statement.{Clock, At, calls_by}

module _ (K : Clock) where
  -- later instants have no fewer calls before them
  pub first_rises : (t u : ℕ) → t ≤ u → K.first t ≤ K.first u
  first_rises t zero le = let e : t ≡ 0 = omega arith in omega (arith, ap K.first e)
  first_rises t (suc u) le = go (dec_le t u) (first_rises t u)
    where
      go : Dec (t ≤ u) → (t ≤ u → K.first t ≤ K.first u) → K.first t ≤ K.first (suc u)
      go (yes p) more = omega (arith, more p, K.goes_on u)
      go (no p) more = let e : t ≡ suc u = omega arith in omega (arith, ap K.first e)

  -- a call made before the instant n is of an earlier one
  pub instant : (k n : ℕ) → k < K.first n → (t : ℕ) × (t < n) × At K k t
  instant k zero lt = absurd (omega (arith, K.from_none))
  instant k (suc n) lt = go (dec_lt k (K.first n)) (instant k n)
    where
      go : Dec (k < K.first n) → (k < K.first n → (t : ℕ) × (t < n) × At K k t) → (t : ℕ) × (t < suc n) × At K k t
      go (yes p) more = let w = more p in (w.0, omega (arith, w.1), w.2)
      go (no p) more = (n, omega arith, record { from = omega arith; till = lt })

  -- a call that is made by the tick t is of an instant up to t
  pub made_by : (a r t : ℕ) → At K a r → a < calls_by K t → r ≤ t
  made_by a r t p lt = go (dec_le r t)
    where
      go : Dec (r ≤ t) → r ≤ t
      go (yes le) = le
      go (no gt) = absurd (omega (arith, p.from, first_rises (suc t) r (omega arith)))

  -- so calls in order are at instants in order
  pub in_order : (j k t u : ℕ) → j ≤ k → At K j t → At K k u → t ≤ u
  in_order j k t u le p q = made_by j t u p (omega (arith, q.till))
