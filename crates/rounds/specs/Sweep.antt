-- What a round must do, whatever its order and its engine, for the rounds to end in the final vector.
use Rattle.std.specs.Prelude.{◌≡◌, List, ℕ, ◌≤◌, ◌<◌}
use Rattle.rounds.specs.OnWay.{OnWay}
use Rattle.rounds.specs.Rounds.{Progress}
use Rattle.rounds.specs.System.{System, size}
use Rattle.rounds.specs.Vector.{at, ◌⊑◌}
use Rattle.rounds.specs.Worth.{worth}

-- A sweep from v to w: no value rises, w is on the way, and it changes a value unless every one is supported.
pub record Sweep (S : System) (v w : List ℕ) : Type 0 where
  pub lower : w ⊑ v
  pub keeps : OnWay S w
  pub fair : w ≡ v → (i : ℕ) → i < size S → at v i ≤ worth S i v

-- A round that sweeps from every vector on the way.
abbrev pub Sweeps : System → (Progress → Progress) → Type 0
Sweeps S R = (s : Progress) → OnWay S s.vector → Sweep S s.vector (R s).vector
