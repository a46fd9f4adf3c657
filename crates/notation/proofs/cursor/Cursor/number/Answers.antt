-- What is left of `notation::cursor::Cursor::number`.
use mathlib.Core.Path.{sym, ◌∙◌}
use native.Mathlib.Omega.{arith}
use Rattle.notation.specs.declared.causes.Cause.TheVariants.{NoNumber, BelowRange, AboveRange}
use Rattle.notation.specs.Columns.{column_number}
use Rattle.notation.proofs.Rowing.{cell_misfit, number_none, number_low, number_high, number_is}
use Rattle.notation.proofs.cursor.Cursor.number.Goals as goal

pub returns-then-not-is_number : goal.returns-then-not-is_number
returns-then-not-is_number c =
    let none = sym c.is_number.ensures ∙ c.if-not-is_number.true in
    let word = c.next_word-start.ensures in
    cell_misfit NoNumber c.args.column _ (omega arith) (number_none word (column_number c.args.column) none) c.of.ensures word.first

pub returns-then-value-least : goal.returns-then-value-least
returns-then-value-least c =
    let value = c.value-value in
    let some = sym c.is_number.ensures ∙ c.if-not-is_number.false in
    let word = c.next_word-start.ensures in
    let column = column_number c.args.column in
    cell_misfit BelowRange c.args.column _ (omega arith)
    (number_low word column value.result some value.ensures (omega (arith, c.least.ensures, c.if-value-least.true))) c.of-then-value-least.ensures word.first

pub returns-then-most-value : goal.returns-then-most-value
returns-then-most-value c =
    let value = c.value-value in
    let some = sym c.is_number.ensures ∙ c.if-not-is_number.false in
    let word = c.next_word-start.ensures in
    let column = column_number c.args.column in
    cell_misfit AboveRange c.args.column _ (omega arith)
    (number_high word column value.result some value.ensures
    (omega (arith, c.least.ensures, c.if-value-least.false)) (omega (arith, c.most.ensures, c.if-most-value.true))) c.of-then-most-value.ensures word.first

pub returns : goal.returns
returns c =
    let value = c.value-value in
    let some = sym c.is_number.ensures ∙ c.if-not-is_number.false in
    let word = c.next_word-start.ensures in
    number_is word (column_number c.args.column) value.result some value.ensures
    (omega (arith, c.least.ensures, c.if-value-least.false)) (omega (arith, c.most.ensures, c.if-most-value.false))
