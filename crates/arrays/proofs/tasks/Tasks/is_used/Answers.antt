-- What is left of `arrays::tasks::Tasks::is_used`.
use Rattle.std.proofs.Common.{◌≡◌, sym, refl, arith, le-ltb, lt-ltb}
use Rattle.searches.specs.Searches.{some}
use Rattle.protocol.specs.Fit.{used}
use Rattle.searches.proofs.Searching.{some_true, some_on}
use Rattle.arrays.specs.View.{count_of, tasks_of}
use Rattle.arrays.proofs.Turns.{uses_it}
use Rattle.arrays.proofs.tasks.Tasks.is_used.Goals as goal

pub loop-i-init : goal.loop-i-init
unfolding some
loop-i-init c = refl

pub returns-then-count_at-gt0 : goal.returns-then-count_at-gt0
unfolding used
returns-then-count_at-gt0 c =
    sym (some_true (uses_it (tasks_of c.args.self.now) c.args.resource) c.args.self.now.count c.loop-i.i c.loop-i-test.true
    (rw (← c.new.ensures) (lt-ltb 0 (count_of c.args.self.now.uses c.new.result c.args.resource) (omega (arith, c.count_at.ensures)))))

pub loop-i-preserved : goal.loop-i-preserved
loop-i-preserved c = some_on (uses_it (tasks_of c.args.self.now) c.args.resource) c.loop-i.i c.loop-i.invariant
    (rw (← c.new.ensures) (le-ltb 0 (count_of c.args.self.now.uses c.new.result c.args.resource) (omega (arith, c.count_at.ensures))))

pub returns : goal.returns
unfolding used
returns c = let e : c.loop-i.i ≡ c.args.self.now.count = omega arith in rw (← e) (sym c.loop-i.invariant)
