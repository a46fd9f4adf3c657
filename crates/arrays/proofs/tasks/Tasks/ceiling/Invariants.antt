-- The loop of `arrays::tasks::Tasks::ceiling`.
use Rattle.std.proofs.Common.{◌≡◌}
use Rattle.searches.specs.Searches.{largest}
use Rattle.arrays.specs.View.{tasks_of}
use Rattle.arrays.proofs.Turns.{user_priority}
use Rattle.arrays.proofs.tasks.Tasks.ceiling.Given as goal

abbrev pub invariant-loop-i : goal.invariant-loop-i
invariant-loop-i l = l.highest ≡ largest (user_priority (tasks_of l.self) l.resource) l.i
