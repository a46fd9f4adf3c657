-- The solver step by step: what one evaluation leads to, as equations, and that the count grows.
use Rattle.std.specs.Prelude.{◌≡◌, refl, Bool, true, false, ℕ, zero, suc, ◌+◌, ◌≤◌, ◌<◌, eqb, ltb}
use Rattle.std.proofs.Common.{le_refl, arith, eqb-true, eq-eqb, ne_eqb, ltb-true, ltb-false, lt-ltb, le-ltb}
use Rattle.std.proofs.lemmas.Bool.{eqb-false}
use Rattle.rounds.specs.Answer.{bound, none}
use Rattle.rounds.specs.Solver.{climb, solve}
use Rattle.rounds.specs.SolverSteps.{Told, found, over, next}

-- ---- one evaluation

-- Equal gives the bound.
pub climb_found : (g : ℕ → ℕ) (d k t e : ℕ) → g t ≡ t → climb g d (suc k) t e ≡ record { answer = bound t; evaluations = e + 1 }
unfolding climb
climb_found g d k t e h = rw (eq-eqb (g t) t h)

-- Above the deadline gives none.
pub climb_over :
    (g : ℕ → ℕ) (d k t e : ℕ) → (g t ≡ t → ⊥) → d < g t → climb g d (suc k) t e ≡ record { answer = none; evaluations = e + 1 }
unfolding climb
climb_over g d k t e h l = rw (ne_eqb (g t) t h, lt-ltb d (g t) l)

-- Anything else becomes t.
pub climb_next : (g : ℕ → ℕ) (d k t e : ℕ) → (g t ≡ t → ⊥) → g t ≤ d → climb g d (suc k) t e ≡ climb g d k (g t) (e + 1)
unfolding climb
climb_next g d k t e h within = rw (ne_eqb (g t) t h, le-ltb d (g t) within)

-- One of the three is the case.
pub told : (d t u : ℕ) → Told d t u
told d t u = go (eqb u t) (ltb d u) refl refl
  where
    go : (p q : Bool) → eqb u t ≡ p → ltb d u ≡ q → Told d t u
    go true q e f = found (eqb-true u t e)
    go false true e f = over (eqb-false u t e) (ltb-true d u f)
    go false false e f = next (eqb-false u t e) (ltb-false d u f)

-- ---- the start

-- None at once where the start is above the deadline.
pub solve_over : (g : ℕ → ℕ) (d s e : ℕ) → d < s → solve g d s e ≡ record { answer = none; evaluations = e }
unfolding solve
solve_over g d s e h = rw (lt-ltb d s h)

-- Otherwise the climb begins there.
pub solve_climb : (g : ℕ → ℕ) (d s e : ℕ) → s ≤ d → solve g d s e ≡ climb g d (suc d) s e
unfolding solve
solve_climb g d s e h = rw (le-ltb d s h)

-- ---- the count

-- One evaluation counts, if what comes after it never lowers the count.
counts_then : (g : ℕ → ℕ) (d k t e : ℕ) → (e + 1 ≤ (climb g d k (g t) (e + 1)).evaluations) → e < (climb g d (suc k) t e).evaluations
counts_then g d k t e more = go (told d t (g t))
  where
    go : Told d t (g t) → e < (climb g d (suc k) t e).evaluations
    go (found h) = rw (climb_found g d k t e h) (omega arith)
    go (over h l) = rw (climb_over g d k t e h l) (omega arith)
    go (next h l) = rw (climb_next g d k t e h l) (omega arith)

-- The count never falls.
pub climb_grows : (g : ℕ → ℕ) (d k t e : ℕ) → e ≤ (climb g d k t e).evaluations
unfolding climb
climb_grows g d zero t e = le_refl e
climb_grows g d (suc k) t e = omega (arith, counts_then g d k t e (climb_grows g d k (g t) (e + 1)))

-- A climb with fuel evaluates at least once.
pub climb_counts : (g : ℕ → ℕ) (d k t e : ℕ) → e < (climb g d (suc k) t e).evaluations
climb_counts g d k t e = counts_then g d k t e (climb_grows g d k (g t) (e + 1))

-- The solver's count never falls.
pub solve_grows : (g : ℕ → ℕ) (d s e : ℕ) → e ≤ (solve g d s e).evaluations
solve_grows g d s e = go (ltb d s) refl
  where
    go : (b : Bool) → ltb d s ≡ b → e ≤ (solve g d s e).evaluations
    go true h = rw (solve_over g d s e (ltb-true d s h)) (le_refl e)
    go false h = rw (solve_climb g d s e (ltb-false d s h)) (climb_grows g d (suc d) s e)
