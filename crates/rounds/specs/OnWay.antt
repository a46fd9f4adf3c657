-- Vectors on the way down from the deadlines to the final vector.
use Rattle.std.specs.Prelude.{◌≡◌, List, ℕ, ◌≤◌, ◌<◌, length}
use Rattle.rounds.specs.System.{System, size}
use Rattle.rounds.specs.Vector.{at, ◌⊑◌}
use Rattle.rounds.specs.Worth.{worth}

-- A supported vector: no value is above what its task is worth under that vector. All agreeing vectors are supported.
pub record Supported (S : System) (v : List ℕ) : Type 0 where
  pub sized : length v ≡ size S
  pub each : (i : ℕ) → i < size S → at v i ≤ worth S i v

-- On the way down: within the deadlines, above all that is supported, and no value below what its task is worth.
pub record OnWay (S : System) (v : List ℕ) : Type 0 where
  pub sized : length v ≡ size S
  pub within : v ⊑ S.deadlines
  pub tops : (w : List ℕ) → Supported S w → w ⊑ v
  pub holds : (i : ℕ) → i < size S → worth S i v ≤ at v i
