-- The loop of `arrays::entries::Entries::system_priority`.
use Rattle.std.proofs.Common.{◌≡◌}
use Rattle.searches.specs.Searches.{largest}
use Rattle.arrays.specs.View.{tasks_of, entries_of}
use Rattle.arrays.proofs.Turns.{started_setting}
use Rattle.arrays.proofs.entries.Entries.system_priority.Given as goal

abbrev pub invariant-loop-i : goal.invariant-loop-i
invariant-loop-i l = l.highest ≡ largest (started_setting (tasks_of l.tasks) (entries_of l.self)) l.i
