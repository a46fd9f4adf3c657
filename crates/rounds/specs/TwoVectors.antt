-- A system that two vectors agree with.
use Rattle.std.specs.Prelude.{[], ◌∷◌, ◌-◌, min, max}
use Rattle.rounds.specs.System.{System}
use Rattle.rounds.specs.Vector.{at}

-- Two tasks with the deadline 3: each takes the other's value, but at least 1 and at most 2.
abbrev pub pair : System
pair = record { deadlines = 3 ∷ 3 ∷ []; start = λ i. 1; side = λ i v t. max 1 (min 2 (at v (1 - i))) }
