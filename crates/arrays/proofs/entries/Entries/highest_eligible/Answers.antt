-- What is left of `arrays::entries::Entries::highest_eligible`.
use Rattle.std.proofs.Common.{max, refl, ap₂, ◌∙◌}
use Rattle.searches.specs.Searches.{largest}
use Rattle.searches.proofs.Searching.{largest_on}
use Rattle.arrays.specs.View.{tasks_of, entries_of, eligible_priority}
use Rattle.arrays.proofs.entries.Entries.highest_eligible.Goals as goal
use Rattle.arrays.proofs.entries.Entries.highest_eligible.Goals.{then-eligible, else-eligible}

pub loop-i-init : goal.loop-i-init
unfolding largest
loop-i-init c = refl

pub loop-i-preserved : goal.loop-i-preserved
loop-i-preserved c = largest_on (eligible_priority (tasks_of c.args.tasks.now) (entries_of c.args.self.now) c.args.system) c.loop-i.i _
    (c.max-highest.ensures ∙ ap₂ max c.loop-i.invariant (elim c.if-eligible.branch [
      | then-eligible w ↦ rw (← c.of.ensures, ← c.is_eligible-eligible.ensures, w.if-eligible.true) w.counted-is
      | else-eligible w ↦ rw (← c.of.ensures, ← c.is_eligible-eligible.ensures, w.if-eligible.false) w.counted-is
    ]))
