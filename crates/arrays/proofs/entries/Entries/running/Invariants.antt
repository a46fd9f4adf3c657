-- The loop of `arrays::entries::Entries::running`.
use Rattle.std.proofs.Common.{◌≡◌}
use Rattle.searches.specs.Searches.{nowhere, first}
use Rattle.arrays.specs.View.{tasks_of, entries_of}
use Rattle.arrays.proofs.Turns.{leads}
use Rattle.arrays.proofs.entries.Entries.running.Given as goal

abbrev pub invariant-loop-i : goal.invariant-loop-i
invariant-loop-i l = first (leads (tasks_of l.tasks) (entries_of l.self) l.system l.highest) l.i ≡ nowhere
