-- What is left of `arrays::entries::Entries::sleeper`.
use Rattle.std.proofs.Common.{sym, refl}
use Rattle.searches.specs.Searches.{first}
use Rattle.searches.proofs.Searching.{first_here, first_on}
use Rattle.arrays.specs.View.{tasks_of, entries_of, sleeping}
use Rattle.arrays.proofs.entries.Entries.sleeper.Goals as goal

pub loop-i-init : goal.loop-i-init
unfolding first
loop-i-init c = refl

pub returns-then-is_asleep-named-clause-found : goal.returns-then-is_asleep-named-clause-found
returns-then-is_asleep-named-clause-found c =
    rw c.new-place.ensures (sym (first_here (sleeping (tasks_of c.args.tasks.now) (entries_of c.args.self.now) c.args.job.priority c.args.job.serial) c.loop-i.i
    c.args.tasks.now.count c.loop-i.invariant
    (rw (← c.new-place.ensures, ← c.status.ensures, ← c.is_asleep.ensures, ← c.has_number-named.ensures) c.if-is_asleep-named.true) c.loop-i-test.true))

pub loop-i-preserved : goal.loop-i-preserved
loop-i-preserved c =
    first_on (sleeping (tasks_of c.args.tasks.now) (entries_of c.args.self.now) c.args.job.priority c.args.job.serial) c.loop-i.i
    c.loop-i.invariant (rw (← c.new-place.ensures, ← c.status.ensures, ← c.is_asleep.ensures, ← c.has_number-named.ensures) c.if-is_asleep-named.false)
