-- The loops of `equations::scans::uses_from`.
use Rattle.equations.proofs.Scanned.{Seeking}
use Rattle.equations.proofs.scans.uses_from.Given as goal

abbrev pub invariant-loop-size : goal.invariant-loop-size
invariant-loop-size l = Seeking l.table.bytes.now l.table.shape.uses_at l.initial.size l.least l.low l.size

abbrev pub decreases-loop-size : goal.decreases-loop-size
decreases-loop-size l = l.size
