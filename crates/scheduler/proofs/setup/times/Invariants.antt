-- The loop of `scheduler::setup::times`.
use Rattle.std.proofs.Common.{◌≡◌}
use Rattle.scheduler.specs.Fresh.{times_by}
use Rattle.scheduler.proofs.setup.times.Given as goal

abbrev pub invariant-loop-j : goal.invariant-loop-j
invariant-loop-j l = l.times ≡ times_by l.table.bytes.now l.table.shape.tasks l.table.shape.uses_at l.j
