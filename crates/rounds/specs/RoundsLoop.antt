-- The analysis as a loop over rounds: what is so before each.
use Rattle.std.specs.Prelude.{◌≡◌, ℕ, ◌≤◌}
use Rattle.rounds.specs.OnWay.{OnWay}
use Rattle.rounds.specs.Rounds.{Progress, round, last, before_last}
use Rattle.rounds.specs.System.{System}

-- Before a round from s: the rounds from s come to the last round of the analysis, with the count within the allowance.
pub record Going (S : System) (allowance : ℕ) (s : Progress) : Type 0 where
  pub way : OnWay S s.vector
  pub finishing : before_last S ≡ last (round S) s
  pub counted : s.evaluations ≤ allowance
