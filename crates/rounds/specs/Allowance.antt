-- The caller's allowance of evaluations: the analysis is refused exactly when its total is larger.
use Rattle.std.specs.Prelude.{cond, ℕ, leb}
use Rattle.rounds.specs.Rounds.{Progress, analysis}
use Rattle.rounds.specs.System.{System}

-- What comes of the analysis under an allowance: it is within and answered, or beyond and refused.
pub data Allowed : Type 0 where
  within : Progress → Allowed
  beyond : Allowed

-- The total of the whole analysis decides.
unfoldable pub allowed : System → ℕ → Allowed
allowed S allowance = cond (leb (analysis S).evaluations allowance) (within (analysis S)) beyond
