-- The solver's loop as the code makes it: its test is the deadline's.
use Prim.Native.Nat.{ℕ, ◌+◌, ◌≤◌, ◌<◌}
use mathlib.Core.Path.{◌≡◌}
use native.Mathlib.Omega.{arith}
use Rattle.rounds.specs.Answer.{none}
use Rattle.rounds.specs.Solver.{Reply}
use Rattle.rounds.specs.SolverLoop.{Climbing}
use Rattle.rounds.proofs.SolverLoop.{climbing_over, climbing_next}

-- before a test: within the deadline the climb goes on, and past it the answer is none
pub record Solving (g : ℕ → ℕ) (d allowance : ℕ) (whole : Reply) (t e : ℕ) : Type 0 where
  pub climbing : t ≤ d → Climbing g d allowance whole t e
  pub over : d < t → (whole ≡ record { answer = none; evaluations = e }) × (e ≤ allowance)

module _ (g : ℕ → ℕ) (d allowance : ℕ) (whole : Reply) (t e u : ℕ) (s : Solving g d allowance whole t e) (l : t ≤ d) (is : u ≡ g t) (ne : u ≡ t → ⊥) where
  -- a right side that is not the length becomes it
  pub solving_next : ((a b : ℕ) → a ≤ b → g a ≤ g b) → e < allowance → Solving g d allowance whole u (e + 1)
  solving_next rises m = record {
    climbing = λ within. climbing_next g d allowance whole t e (s.climbing l) u is rises ne within m;
    over = λ past. (climbing_over g d allowance whole t e (s.climbing l) u is past, omega arith);
  }
