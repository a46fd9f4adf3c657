-- What is left of `arrays::sections::Sections::are_fit`.
use Rattle.std.proofs.Common.{◌≡◌, arith, sym, refl, ◌∙◌, le-leb}
use Rattle.searches.specs.Searches.{all}
use Rattle.searches.proofs.Searching.{all_not, all_on}
use Rattle.arrays.specs.View.{tasks_of}
use Rattle.arrays.proofs.Opened.{named_at, named_all}
use Rattle.arrays.proofs.sections.Sections.are_fit.Goals as goal

pub loop-k-init : goal.loop-k-init
unfolding all
loop-k-init c = refl

pub returns-then-not-test : goal.returns-then-not-test
returns-then-not-test c =
    let s = c.args.self.now in
    let test = named_at (tasks_of c.args.tasks.now) s.places s.resources in
    rw (le-leb c.args.tasks.now.count 32 c.if-tasks-gt32.false, le-leb s.count 16 c.if-self-gt16.false)
    (sym (named_all (tasks_of c.args.tasks.now) s.places s.resources s.count ∙ all_not test c.loop-k.k s.count
    (rw (← c.from-place.ensures, ← c.is_used.ensures) c.if-not-test.true) c.loop-k-test.true))

pub loop-k-preserved : goal.loop-k-preserved
loop-k-preserved c =
    let s = c.args.self.now in
    all_on (named_at (tasks_of c.args.tasks.now) s.places s.resources) c.loop-k.k c.loop-k.invariant
    (rw (← c.from-place.ensures, ← c.is_used.ensures) c.if-not-test.false)

pub returns : goal.returns
returns c =
    let s = c.args.self.now in
    let e : c.loop-k.k ≡ s.count = omega arith in
    rw (le-leb c.args.tasks.now.count 32 c.if-tasks-gt32.false, le-leb s.count 16 c.if-self-gt16.false)
    (sym (named_all (tasks_of c.args.tasks.now) s.places s.resources s.count ∙ rw (← e) c.loop-k.invariant))
