-- The loop of `scheduler::setup::column`.
use Rattle.std.proofs.Common.{◌≡◌}
use Rattle.scheduler.specs.Fresh.{column}
use Rattle.scheduler.proofs.setup.column.Given as goal

abbrev pub invariant-loop-i : goal.invariant-loop-i
invariant-loop-i l = l.numbers ≡ column l.bytes l.i l.field
