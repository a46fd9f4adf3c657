-- What is left of `analysis::analyse`.
use mathlib.Core.Path.{sym, ap, ◌∙◌}
use Rattle.table.specs.Reading.{Reading}
use Rattle.analysis.specs.Analysing.{analysed_as}
use Rattle.analysis.proofs.analyse.Goals as goal

pub returns-in-Err : goal.returns-in-Err
unfolding analysed_as
returns-in-Err c = c.refused.ensures ∙ ap (λ (r : Reading). analysed_as r c.args.bytes.now c.args.allowance) (sym c.in-Err.ensures)
