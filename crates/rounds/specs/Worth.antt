-- What a task is worth under a vector: the value of the solver's answer.
use Rattle.std.specs.Prelude.{List, ℕ}
use Rattle.rounds.specs.Answer.{value}
use Rattle.rounds.specs.Rounds.{reply}
use Rattle.rounds.specs.System.{System, deadline}

-- The value of the task i under v: its bound there, or its deadline.
abbrev pub worth : System → ℕ → List ℕ → ℕ
worth S i v = value (deadline S i) (reply S i v 0).answer
