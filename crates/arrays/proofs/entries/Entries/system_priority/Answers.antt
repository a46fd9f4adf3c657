-- What is left of `arrays::entries::Entries::system_priority`.
use Rattle.std.proofs.Common.{◌≡◌, max, refl, ap₂, ◌∙◌, arith}
use Rattle.searches.specs.Searches.{largest}
use Rattle.protocol.specs.Running.{system_priority}
use Rattle.searches.proofs.Searching.{largest_on}
use Rattle.arrays.specs.View.{tasks_of, entries_of}
use Rattle.arrays.proofs.Turns.{started_setting}
use Rattle.arrays.proofs.entries.Entries.system_priority.Goals as goal
use Rattle.arrays.proofs.entries.Entries.system_priority.Goals.{then-counts, else-counts}

pub loop-i-init : goal.loop-i-init
unfolding largest
loop-i-init c = refl

pub loop-i-preserved : goal.loop-i-preserved
loop-i-preserved c = largest_on (started_setting (tasks_of c.args.tasks.now) (entries_of c.args.self.now)) c.loop-i.i _
    (c.max-highest.ensures ∙ ap₂ max c.loop-i.invariant (elim c.if-counts.branch [
      | then-counts w ↦ rw (← c.of.ensures, ← c.is_unfinished.ensures, w.if-counts.true) w.counted-is
      | else-counts w ↦ rw (← c.of.ensures, ← c.is_unfinished.ensures, w.if-counts.false) w.counted-is
    ]))

pub returns : goal.returns
unfolding system_priority
returns c = let e : c.loop-i.i ≡ c.args.tasks.now.count = omega arith in rw (← e) c.loop-i.invariant
