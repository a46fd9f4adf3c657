-- A round as a loop over its turns, with a flag that tells whether a value changed: what is so after each turn.
use Rattle.std.specs.Prelude.{◌≡◌, Bool, ℕ, ◌≤◌}
use Rattle.rounds.specs.OnWay.{OnWay}
use Rattle.rounds.specs.Rounds.{Progress, turns, changed}
use Rattle.rounds.specs.System.{System, size}

-- After the first i turns of a round from s, with the count within the allowance.
pub record Turned (S : System) (s : Progress) (allowance i : ℕ) (now : Progress) (flag : Bool) : Type 0 where
  pub place : i ≤ size S
  pub reached : now ≡ turns S i s
  pub counted : now.evaluations ≤ allowance
  pub told : flag ≡ changed s now
  pub way : OnWay S now.vector
