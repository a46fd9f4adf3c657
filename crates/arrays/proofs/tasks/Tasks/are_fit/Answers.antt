-- What is left of `arrays::tasks::Tasks::are_fit`.
use Rattle.std.proofs.Common.{refl}
use Rattle.searches.specs.Searches.{all}
use Rattle.searches.proofs.Searching.{all_more}
use Rattle.arrays.specs.View.{tasks_of, setting_below}
use Rattle.arrays.proofs.tasks.Tasks.are_fit.Goals as goal

pub loop-i-init : goal.loop-i-init
unfolding all
loop-i-init c = refl

pub loop-i-preserved : goal.loop-i-preserved
loop-i-preserved c = rw (all_more (setting_below (tasks_of c.args.self.now)) c.loop-i.i, ← c.loop-i.invariant)
