-- What is left of `notation::cursor::Cursor::cell`.
use Prim.Native.Nat.{◌-◌}
use mathlib.Core.Path.{◌≡◌, sym, ap, subst, ◌∙◌}
use native.Mathlib.Omega.{arith}
use lib.ListN.{take, drop}
use Rattle.words.specs.Finding.{same}
use Rattle.notation.specs.declared.causes.Cause.TheVariants.{OtherName}
use Rattle.notation.specs.Columns.{column_number, name}
use Rattle.notation.specs.Rows.{Cell}
use Rattle.notation.specs.Taking.{CellRead}
use Rattle.notation.proofs.Rowing.{cell_misfit, cell_named, cell_other}
use Rattle.notation.proofs.cursor.Cursor.cell.Goals as goal
use Rattle.notation.proofs.cursor.Cursor.cell.Goals.{After-same}

-- what is tested is whether it is the column's name
tested : (c : After-same) → let b = c.next_word-start.result.start in
    c.same.result ≡ same (take (c.next_word-start.result.end - b) (drop b c.args.self.now.text.now)) (name (column_number c.args.column))
tested c = let b = c.next_word-start.result.start in c.same.ensures ∙ ap (same (take (c.next_word-start.result.end - b) (drop b c.args.self.now.text.now))) c.name.ensures.value

pub returns-then-not-same : goal.returns-then-not-same
returns-then-not-same c =
    let word = c.next_word-start.ensures in
    let other = sym (tested (goal.at.returns-then-not-same c).After-same) ∙ c.if-not-same.true in
    cell_misfit OtherName c.args.column _ (omega arith) (cell_other word (column_number c.args.column) other) c.of.ensures word.first

pub returns : goal.returns
returns c =
    let word = c.next_word-start.ensures in
    let named = sym (tested (goal.at.returns c).After-same) ∙ c.if-not-same.false in
    subst (λ (x : Cell). CellRead c.args.self.now.text.now (column_number c.args.column) x c.number.result) (cell_named word (column_number c.args.column) named)
    c.number.ensures
