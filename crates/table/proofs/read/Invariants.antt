-- The loops of `table::read`.
use Prim.Native.Nat.{◌-◌}
use lib.ListN.{length}
use Rattle.table.proofs.Going.{Going}
use Rattle.table.proofs.read.Given as goal

abbrev pub invariant-loop-next : goal.invariant-loop-next
invariant-loop-next l = Going l.bytes l.walk

abbrev pub decreases-loop-next : goal.decreases-loop-next
decreases-loop-next l = length l.bytes - l.walk.at
