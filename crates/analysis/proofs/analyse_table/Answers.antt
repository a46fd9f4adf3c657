-- What is left of `analysis::analyse_table`.
use mathlib.Core.Path.{◌≡◌, refl, ap, ◌∙◌}
use native.Mathlib.Omega.{arith}
use lib.ListN.{length}
use Rattle.analysis.specs.Analysing.{refused_by}
use Rattle.analysis.proofs.Marked.{all_marked}
use Rattle.analysis.proofs.Answering.{marks_start, spent_is, done_is}
use Rattle.analysis.proofs.analyse_table.Goals as goal

pub settle-requires-clause-marks : goal.settle-requires-clause-marks
settle-requires-clause-marks c = marks_start c.args.table.now.shape.tasks

pub returns : goal.returns
returns c =
    let T = c.args.table.now in
    let long : length c.settle.new.bounds ≡ 32 = omega arith in
    done_is T.bytes.now T.shape T.well_formed c.args.allowance c.own_settings-settings.result c.own_settings-settings.ensures
    c.settle.new.vector c.settle.new.bounds c.in-Ok.evaluations long c.in-Ok.ensures.marks c.in-Ok.ensures.says _ c.all_bounded.result refl
    (c.all_bounded.ensures ∙ all_marked c.settle.new.bounds T.shape.tasks (omega (arith, long, T.well_formed.tasks_most)))

pub returns-in_default : goal.returns-in_default
returns-in_default c =
    let T = c.args.table.now in
    spent_is T.bytes.now T.shape T.well_formed c.args.allowance c.own_settings-settings.result c.own_settings-settings.ensures c.refused.result
    (c.refused.ensures ∙ ap refused_by c.at.ensures) c.in_default.ensures.says
