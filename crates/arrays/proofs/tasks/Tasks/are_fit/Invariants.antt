-- The loop of `arrays::tasks::Tasks::are_fit`.
use Rattle.std.proofs.Common.{◌≡◌}
use Rattle.searches.specs.Searches.{all}
use Rattle.arrays.specs.View.{tasks_of, setting_below}
use Rattle.arrays.proofs.tasks.Tasks.are_fit.Given as goal

abbrev pub invariant-loop-i : goal.invariant-loop-i
invariant-loop-i l = l.below ≡ all (setting_below (tasks_of l.self)) l.i
