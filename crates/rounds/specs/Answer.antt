-- What a task is answered, and what it is for the answer to be right. Throughout, g is the right side as a function of t, and d the deadline.
use Rattle.std.specs.Prelude.{◌≡◌, ℕ, ◌≤◌}

-- A task is answered its bound, or none.
pub data Answer : Type 0 where
  bound : ℕ → Answer
  none : Answer

-- A solution: t from 1 to the deadline with the right side at t equal to t.
pub record Solution (g : ℕ → ℕ) (d t : ℕ) : Type 0 where
  pub positive : 1 ≤ t
  pub within : t ≤ d
  pub solves : g t ≡ t

-- The least solution.
pub record Least (g : ℕ → ℕ) (d t : ℕ) : Type 0 where
  pub solution : Solution g d t
  pub least : (u : ℕ) → Solution g d u → t ≤ u

-- A bound is right where it is the least solution, and none where there is no solution.
abbrev pub Right : (ℕ → ℕ) → ℕ → Answer → Type 0
Right g d (bound t) = Least g d t
Right g d none = (u : ℕ) → Solution g d u → ⊥

-- Strong says more: below every u that the right side doesn't raise, and not only below the solutions.
abbrev pub Strong : (ℕ → ℕ) → ℕ → Answer → Type 0
Strong g d (bound t) = Solution g d t × ((u : ℕ) → g u ≤ u → t ≤ u)
Strong g d none = (u : ℕ) → u ≤ d → g u ≤ u → ⊥

-- The value that an answer stands for in a vector: the bound, or the deadline where there is none.
abbrev pub value : ℕ → Answer → ℕ
value d (bound t) = t
value d none = d
