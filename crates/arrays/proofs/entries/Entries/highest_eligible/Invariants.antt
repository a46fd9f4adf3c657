-- The loop of `arrays::entries::Entries::highest_eligible`.
use Rattle.std.proofs.Common.{◌≡◌}
use Rattle.searches.specs.Searches.{largest}
use Rattle.arrays.specs.View.{tasks_of, entries_of, eligible_priority}
use Rattle.arrays.proofs.entries.Entries.highest_eligible.Given as goal

abbrev pub invariant-loop-i : goal.invariant-loop-i
invariant-loop-i l = l.highest ≡ largest (eligible_priority (tasks_of l.tasks) (entries_of l.self) l.system) l.i
