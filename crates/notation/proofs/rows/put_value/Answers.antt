-- What is left of `notation::rows::put_value`.
use mathlib.Core.Path.{sym, ◌∙◌}
use native.Mathlib.Omega.{arith}
use Rattle.notation.specs.Columns.{column_number}
use Rattle.notation.proofs.Rowing.{put_wide, put_narrow}
use Rattle.notation.proofs.rows.put_value.Goals as goal

pub returns-then-is_wide-clause-put : goal.returns-then-is_wide-clause-put
returns-then-is_wide-clause-put c =
    put_wide c.args.records.now c.args.at (column_number c.args.column) c.args.value _ c.requires (sym c.is_wide.ensures ∙ c.if-is_wide.true) c.put_word.ensures

pub returns-else-is_wide-clause-put : goal.returns-else-is_wide-clause-put
returns-else-is_wide-clause-put c =
    put_narrow c.args.records.now c.args.at (column_number c.args.column) c.args.value (omega (arith, c.requires)) (sym c.is_wide.ensures ∙ c.if-is_wide.false)
