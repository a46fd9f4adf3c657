-- The loop of `arrays::entries::Entries::sleeper`.
use Rattle.std.proofs.Common.{◌≡◌}
use Rattle.searches.specs.Searches.{nowhere, first}
use Rattle.arrays.specs.View.{tasks_of, entries_of, sleeping}
use Rattle.arrays.proofs.entries.Entries.sleeper.Given as goal

abbrev pub invariant-loop-i : goal.invariant-loop-i
invariant-loop-i l = first (sleeping (tasks_of l.tasks) (entries_of l.self) l.job.priority l.job.serial) l.i ≡ nowhere
