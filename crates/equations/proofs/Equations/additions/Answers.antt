-- What is left of `equations::Equations::additions`.
use mathlib.Core.Path.{◌≡◌, refl, sym, ap, ◌∙◌}
use native.Mathlib.Omega.{arith}
use Rattle.searches.specs.Indexed.{sum_to}
use Rattle.searches.proofs.Sums.{sum_to_none, sum_to_more}
use Rattle.equations.specs.View.{view_of}
use Rattle.equations.specs.Equations.{addition}
use Rattle.equations.proofs.Places.{additions_by_place}
use Rattle.equations.proofs.Equations.additions.Goals as goal

pub loop-j-init : goal.loop-j-init
loop-j-init c = (sym (sum_to_none _ 0 refl), omega arith)

pub loop-j-preserved : goal.loop-j-preserved
loop-j-preserved c =
    let here = c.args.self.now in
    let W = view_of here.table.bytes.now here.table.shape here.settings.now in (
      cc (
        c.loop-j.invariant.0,
        c.added-sum.ensures.0,
        sum_to_more (addition W c.args.at.task c.args.vector.now c.args.at.length) c.loop-j.j,
      ),
      omega (arith, c.added-sum.ensures.1, c.loop-j.invariant.1),
    )

pub returns : goal.returns
returns c =
    let here = c.args.self.now in
    let W = view_of here.table.bytes.now here.table.shape here.settings.now in
    let e : c.loop-j.j ≡ c.args.at.task = omega arith in (
      c.loop-j.invariant.0 ∙ ap (sum_to (addition W c.args.at.task c.args.vector.now c.args.at.length)) e
          ∙ sym (additions_by_place here.table.bytes.now here.table.shape here.settings.now c.args.vector.now c.args.at.task
          c.args.at.length here.table.well_formed c.requires.task),
      omega (arith, c.loop-j.invariant.1, c.requires.task, here.table.well_formed.tasks_most),
    )
