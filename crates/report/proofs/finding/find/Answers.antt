-- What is left of `report::finding::find`.
use mathlib.Core.Path.{sym, ap, ◌∙◌}
use native.Mathlib.Omega.{arith}
use Rattle.analysis.specs.declared.Analysis.{Analysis}
use Rattle.analysis.proofs.Replies.{tasks_most}
use Rattle.report.specs.Reporting.{refused_by}
use Rattle.report.proofs.Laws.{unread_finds, short_finds, analysed_finds}
use Rattle.report.proofs.finding.find.Goals as goal

pub returns-in-Err : goal.returns-in-Err
returns-in-Err c = unread_finds c.args.bytes.now c.args.allowance c.args.room _ _ _ (sym c.in-Err.ensures) c.refused.ensures

pub returns-in-Ok : goal.returns-in-Ok
returns-in-Ok c =
    short_finds c.args.bytes.now c.in-Ok.shape (sym c.in-Ok.ensures) c.args.allowance c.args.room _ _ c.if-room-shape.true
    (c.refused-in-Ok.ensures ∙ ap refused_by c.at.ensures)

pub put_rows-requires : goal.put_rows-requires
put_rows-requires c =
    let same = ap (λ (a : Analysis). a.tasks) c.analyse-analysis.ensures in
    omega (arith, same, tasks_most c.args.bytes.now c.args.allowance)

pub returns-in-Ok-2 : goal.returns-in-Ok-2
returns-in-Ok-2 c =
    analysed_finds c.args.bytes.now c.in-Ok.shape (sym c.in-Ok.ensures) c.args.allowance c.args.room _ _ c.if-room-shape.false
    c.analyse-analysis.result c.analyse-analysis.ensures c.from.ensures _ c.put_rows.ensures
