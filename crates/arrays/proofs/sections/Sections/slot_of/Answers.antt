-- What is left of `arrays::sections::Sections::slot_of`.
use Rattle.std.proofs.Common.{sym, refl}
use Rattle.searches.specs.Searches.{first}
use Rattle.searches.proofs.Searching.{first_here, first_on}
use Rattle.arrays.specs.View.{is_section}
use Rattle.arrays.proofs.sections.Sections.slot_of.Goals as goal

pub loop-k-init : goal.loop-k-init
unfolding first
loop-k-init c = refl

pub returns-then-place-holder-clause-found : goal.returns-then-place-holder-clause-found
returns-then-place-holder-clause-found c =
    sym (first_here (is_section c.args.self.now.places c.args.self.now.resources c.args.place c.args.resource) c.loop-k.k c.args.self.now.count c.loop-k.invariant
    (rw (← c.from-holder.ensures) c.if-place-holder.true) c.loop-k-test.true)

pub loop-k-preserved : goal.loop-k-preserved
loop-k-preserved c = first_on (is_section c.args.self.now.places c.args.self.now.resources c.args.place c.args.resource) c.loop-k.k c.loop-k.invariant
    (rw (← c.from-holder.ensures) c.if-place-holder.false)
