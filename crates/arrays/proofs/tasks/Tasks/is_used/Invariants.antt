-- The loop of `arrays::tasks::Tasks::is_used`.
use Rattle.std.proofs.Common.{◌≡◌, false}
use Rattle.searches.specs.Searches.{some}
use Rattle.arrays.specs.View.{tasks_of}
use Rattle.arrays.proofs.Turns.{uses_it}
use Rattle.arrays.proofs.tasks.Tasks.is_used.Given as goal

abbrev pub invariant-loop-i : goal.invariant-loop-i
invariant-loop-i l = some (uses_it (tasks_of l.self) l.resource) l.i ≡ false
