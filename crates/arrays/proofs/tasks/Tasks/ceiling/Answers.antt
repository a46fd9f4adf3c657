-- What is left of `arrays::tasks::Tasks::ceiling`.
use Rattle.std.proofs.Common.{◌≡◌, max, refl, ap₂, ◌∙◌, lt-ltb, le-ltb, arith}
use Rattle.searches.specs.Searches.{largest}
use Rattle.protocol.specs.Running.{ceiling}
use Rattle.searches.proofs.Searching.{largest_on}
use Rattle.arrays.specs.View.{tasks_of, count_of}
use Rattle.arrays.proofs.Turns.{user_priority}
use Rattle.arrays.proofs.tasks.Tasks.ceiling.Goals as goal
use Rattle.arrays.proofs.tasks.Tasks.ceiling.Goals.{then-uses-gt0, else-uses-gt0}

pub loop-i-init : goal.loop-i-init
unfolding largest
loop-i-init c = refl

pub loop-i-preserved : goal.loop-i-preserved
loop-i-preserved c =
    let uses : c.count_at-uses.result ≡ count_of c.args.self.now.uses c.loop-i.i c.args.resource = rw (← c.new.ensures) c.count_at-uses.ensures in
    largest_on (user_priority (tasks_of c.args.self.now) c.args.resource) c.loop-i.i _
    (c.max-highest.ensures ∙ ap₂ max c.loop-i.invariant (elim c.if-uses-gt0.branch [
      | then-uses-gt0 w ↦ rw (← uses, lt-ltb 0 c.count_at-uses.result w.if-uses-gt0.true) w.counted-is
      | else-uses-gt0 w ↦ rw (← uses, le-ltb 0 c.count_at-uses.result w.if-uses-gt0.false) w.counted-is
    ]))

pub returns : goal.returns
unfolding ceiling
returns c = let e : c.loop-i.i ≡ c.args.self.now.count = omega arith in rw (← e) c.loop-i.invariant
