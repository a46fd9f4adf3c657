-- The solver as a loop over t and the count e: finishing from here gives the whole reply.
use Rattle.std.specs.Prelude.{◌≡◌, ℕ, ◌+◌, ◌≤◌, ◌<◌}
use Rattle.std.proofs.Common.{sym, ◌∙◌, arith}
use Rattle.rounds.specs.Answer.{bound, none}
use Rattle.rounds.specs.Solver.{Reply, solve}
use Rattle.rounds.proofs.SolverRight.{climb_more}
use Rattle.rounds.proofs.SolverSteps.{climb_found, climb_over, climb_next, climb_counts, solve_climb}
use Rattle.rounds.specs.SolverLoop.{Climbing}

-- The loop begins so at the start, if that is within the deadline.
pub climbing_start : (g : ℕ → ℕ) (d allowance s e : ℕ) → s ≤ d → s ≤ g s → e ≤ allowance → Climbing g d allowance (solve g d s e) s e
climbing_start g d allowance s e h up l =
    record { within = h; up = up; counted = l; finishing = solve_climb g d s e h }

module _ (g : ℕ → ℕ) (d allowance : ℕ) (whole : Reply) (t e : ℕ) (c : Climbing g d allowance whole t e) where
  -- With the allowance spent, the whole count is above it.
  pub climbing_spent : allowance ≤ e → allowance < whole.evaluations
  climbing_spent l = rw c.finishing (omega (arith, climb_counts g d d t e))

  module _ (u : ℕ) (h : u ≡ g t) where
    -- The right side u equal to t gives the bound.
    pub climbing_found : u ≡ t → whole ≡ record { answer = bound t; evaluations = e + 1 }
    climbing_found q = c.finishing ∙ climb_found g d d t e (omega arith)

    -- Above the deadline it gives none.
    pub climbing_over : d < u → whole ≡ record { answer = none; evaluations = e + 1 }
    climbing_over l = c.finishing ∙ climb_over g d d t e (omega arith) (omega arith)

    -- Otherwise it becomes t.
    pub climbing_next : ((a b : ℕ) → a ≤ b → g a ≤ g b) → (u ≡ t → ⊥) → u ≤ d → e < allowance → Climbing g d allowance whole u (e + 1)
    climbing_next rises ne l m =
        let up : g t ≤ g (g t) = rises t (g t) c.up in
        rw h
        (record {
          within = omega arith;
          up = up;
          counted = omega arith;
          finishing = c.finishing ∙ climb_next g d d t e (omega arith) (omega arith)
              ∙ sym (climb_more g d rises d (g t) (e + 1) (omega (arith, c.up)) (omega arith) up);
        })

    -- Then it is larger than t.
    pub climbing_rises : (u ≡ t → ⊥) → t < u
    climbing_rises ne = omega (arith, c.up)
