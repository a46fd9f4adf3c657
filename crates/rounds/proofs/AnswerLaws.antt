-- Laws of answers: at most one is right, a strong one is right, and how the value depends on the right side.
use Rattle.std.specs.Prelude.{◌≡◌, refl, ℕ, ◌≤◌}
use Rattle.std.proofs.Common.{ap, le_refl, arith}
use Rattle.rounds.specs.Answer.{Answer, bound, none, Right, Strong, value}

-- No two answers are right.
pub right_unique : (g : ℕ → ℕ) (d : ℕ) (a b : Answer) → Right g d a → Right g d b → a ≡ b
right_unique g d (bound t) (bound u) p q =
    ap bound (omega (arith, p.least u q.solution, q.least t p.solution))
right_unique g d (bound t) none p q = absurd (q t p.solution)
right_unique g d none (bound u) p q = absurd (p u q.solution)
right_unique g d none none p q = refl

-- What is strong is right.
pub strong_right : (g : ℕ → ℕ) (d : ℕ) (a : Answer) → Strong g d a → Right g d a
strong_right g d (bound t) h = record { solution = h.0; least = λ u s. h.1 u (omega arith) }
strong_right g d none h = λ u s. h u s.within (omega arith)

-- A lower right side has no larger value.
pub value_mono :
    (g h : ℕ → ℕ) (d : ℕ) (a b : Answer) → ((t : ℕ) → g t ≤ h t) → Strong g d a → Right h d b → value d a ≤ value d b
value_mono g h d (bound t) (bound u) le p q = p.1 u (omega (arith, le u))
value_mono g h d (bound t) none le p q = p.0.within
value_mono g h d none (bound u) le p q = absurd (p u q.solution.within (omega (arith, le u)))
value_mono g h d none none le p q = le_refl d

-- No value is above the deadline.
pub value_within : (g : ℕ → ℕ) (d : ℕ) (a : Answer) → Right g d a → value d a ≤ d
value_within g d (bound t) p = p.solution.within
value_within g d none p = le_refl d

-- A value reaches what both the right side and the deadline reach.
pub value_floor : (g : ℕ → ℕ) (d c : ℕ) (a : Answer) → ((t : ℕ) → c ≤ g t) → c ≤ d → Right g d a → c ≤ value d a
value_floor g d c (bound t) above q h = omega (arith, above t)
value_floor g d c none above q h = q
