-- The solver as a loop over t and the count e: what is so before each evaluation.
use Rattle.std.specs.Prelude.{◌≡◌, ℕ, suc, ◌≤◌}
use Rattle.rounds.specs.Solver.{Reply, climb}

-- Before an evaluation: t is within the deadline and not above its right side, e is within the allowance, and the climb from t gives the whole.
pub record Climbing (g : ℕ → ℕ) (d allowance : ℕ) (whole : Reply) (t e : ℕ) : Type 0 where
  pub within : t ≤ d
  pub up : t ≤ g t
  pub counted : e ≤ allowance
  pub finishing : whole ≡ climb g d (suc d) t e
