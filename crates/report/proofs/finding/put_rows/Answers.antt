-- What is left of `report::finding::put_rows`.
use mathlib.Core.Path.{refl}
use native.Mathlib.Omega.{arith}
use Rattle.searches.specs.Indexed.{every}
use Rattle.report.specs.Reporting.{task_row}
use Rattle.report.proofs.Laws.{rows_more}
use Rattle.report.proofs.finding.put_rows.Goals as goal

pub loop-i-init : goal.loop-i-init
unfolding every
loop-i-init c = refl

pub loop-i-preserved : goal.loop-i-preserved
loop-i-preserved c =
    rw (c.loop-i.invariant, c.row_of.ensures, c.answer.ensures)
    (rows_more (task_row c.args.bytes.now c.args.analysis.now) c.args.rows.now c.loop-i.i (omega arith))
