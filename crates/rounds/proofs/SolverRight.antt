-- The solver's answer is right, and fuel past the deadline changes nothing, where the right side rises and is nowhere below the start.
use Rattle.std.specs.Prelude.{◌≡◌, refl, ◌↔◌, Bool, true, false, ℕ, zero, suc, ◌+◌, ◌≤◌, ◌<◌, ltb}
use Rattle.std.proofs.Common.{subst, ◌∙◌, arith, ltb-true, ltb-false}
use Rattle.std.proofs.Math.Decide.{le_ind}
use Rattle.rounds.specs.Answer.{bound, none, Solution, Least, Right, Strong}
use Rattle.rounds.proofs.AnswerLaws.{right_unique, strong_right}
use Rattle.rounds.specs.Solver.{climb, solve}
use Rattle.rounds.specs.SolverSteps.{Told, found, over, next}
use Rattle.rounds.proofs.SolverSteps.{told, climb_found, climb_over, climb_next, solve_over, solve_climb}

-- ---- the climb, over a right side that rises

module _ (g : ℕ → ℕ) (d : ℕ) (rises : (t u : ℕ) → t ≤ u → g t ≤ g u) where
  -- From a t below every u that the right side doesn't raise, the climb ends in the strong answer.
  climb_strong :
      (k t e : ℕ) → d < t + k → 1 ≤ t → t ≤ d → t ≤ g t → ((u : ℕ) → g u ≤ u → t ≤ u) → Strong g d (climb g d k t e).answer
  climb_strong zero t e fuel pos within up below = absurd (omega arith)
  climb_strong (suc k) t e fuel pos within up below = go (told d t (g t)) (climb_strong k (g t) (e + 1))
    where
      go : Told d t (g t)
          → (d < g t + k → 1 ≤ g t → g t ≤ d → g t ≤ g (g t) → ((u : ℕ) → g u ≤ u → g t ≤ u) → Strong g d (climb g d k (g t) (e + 1)).answer)
          → Strong g d (climb g d (suc k) t e).answer
      go (found h) more = rw (climb_found g d k t e h) (record { positive = pos; within = within; solves = h }, below)
      go (over h l) more = rw (climb_over g d k t e h l) (λ u p q. omega (arith, rises t u (below u q)))
      go (next h l) more =
          rw (climb_next g d k t e h l)
          (more (omega arith) (omega arith) l (rises t (g t) up) (λ u q. omega (arith, rises t u (below u q))))

  -- One more of fuel past the deadline changes neither answer nor count.
  pub climb_more : (k t e : ℕ) → d < t + k → t ≤ d → t ≤ g t → climb g d (suc k) t e ≡ climb g d k t e
  climb_more zero t e fuel within up = absurd (omega arith)
  climb_more (suc k) t e fuel within up = go (told d t (g t)) (climb_more k (g t) (e + 1))
    where
      go : Told d t (g t)
          → (d < g t + k → g t ≤ d → g t ≤ g (g t) → climb g d (suc k) (g t) (e + 1) ≡ climb g d k (g t) (e + 1))
          → climb g d (suc (suc k)) t e ≡ climb g d (suc k) t e
      go (found h) more = rw (climb_found g d (suc k) t e h, climb_found g d k t e h)
      go (over h l) more = rw (climb_over g d (suc k) t e h l, climb_over g d k t e h l)
      go (next h l) more =
          rw (climb_next g d (suc k) t e h l, climb_next g d k t e h l) (more (omega arith) l (rises t (g t) up))

  -- Nor does any more of it.
  pub climb_fuel : (k m t e : ℕ) → k ≤ m → d < t + k → t ≤ d → t ≤ g t → climb g d m t e ≡ climb g d k t e
  climb_fuel k m t e more fuel within up =
      le_ind (λ j. climb g d j t e ≡ climb g d k t e) refl (λ j p q. climb_more j t e (omega arith) within up ∙ q) m more

-- ---- the solver

module _ (g : ℕ → ℕ) (d s : ℕ) (rises : (t u : ℕ) → t ≤ u → g t ≤ g u) (pos : 1 ≤ s) (above : (t : ℕ) → s ≤ g t) where
  -- The solver's answer lies below every u with the right side at u not above u.
  pub solve_strong : (e : ℕ) → Strong g d (solve g d s e).answer
  solve_strong e = go (ltb d s) refl
    where
      go : (b : Bool) → ltb d s ≡ b → Strong g d (solve g d s e).answer
      go true h = rw (solve_over g d s e (ltb-true d s h)) (λ u p q. omega (arith, above u, ltb-true d s h))
      go false h =
          rw (solve_climb g d s e (ltb-false d s h))
          (climb_strong g d rises (suc d) s e (omega arith) pos (ltb-false d s h) (above s) (λ u q. omega (arith, above u)))

  -- The solver's answer is right.
  pub solve_right : (e : ℕ) → Right g d (solve g d s e).answer
  solve_right e = strong_right g d (solve g d s e).answer (solve_strong e)

  -- The answer is the bound t exactly if t is the least solution.
  pub solve_bound : (e t : ℕ) → ((solve g d s e).answer ≡ bound t) ↔ Least g d t
  solve_bound e t = (
    λ q. subst (Right g d) q (solve_right e),
    λ q. right_unique g d (solve g d s e).answer (bound t) (solve_right e) q,
  )

  -- The answer is none exactly if there is no solution.
  pub solve_none : (e : ℕ) → ((solve g d s e).answer ≡ none) ↔ ((u : ℕ) → Solution g d u → ⊥)
  solve_none e = (
    λ q. subst (Right g d) q (solve_right e),
    λ q. right_unique g d (solve g d s e).answer none (solve_right e) q,
  )
