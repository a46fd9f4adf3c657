-- What is left of `notation::cursor::Cursor::put_row`.
use Prim.Native.Nat.{ℕ, ◌+◌}
use mathlib.Core.Path.{sym, subst, ◌∙◌}
use native.Mathlib.Omega.{arith}
use lib.ListN.{set}
use Rattle.notation.specs.Kinds.{first_column, column_count}
use Rattle.notation.specs.Rows.{cells_from}
use Rattle.notation.specs.Taking.{TakenPut}
use Rattle.notation.proofs.Rowing.{row_none, row_kind, row_other}
use Rattle.notation.proofs.cursor.Cursor.put_row.Goals as goal

pub returns-then-start-end : goal.returns-then-start-end
returns-then-start-end c = row_none c.next_word-start.ensures c.args.records.now c.args.count c.if-start-end.true

pub returns-in_default : goal.returns-in_default
returns-in_default c =
    rw c.of.ensures (row_other c.next_word-start.ensures c.args.records.now c.args.count c.if-start-end.false (sym c.named.ensures ∙ c.in_default.is))

pub returns : goal.returns
returns c =
    let kind = c.in-Some.kind in
    let text = c.args.self.now.text.now in
    let count = c.args.count in
    let put = c.put_cells in
    row_kind c.next_word-start.ensures c.args.records.now count kind put.new.records put.result c.if-start-end.false
    (sym c.named.ensures ∙ c.in-Some.is) (omega (arith, c.requires))
    (subst (λ (x : ℕ). TakenPut text (cells_from (column_count kind) text c.next_word-start.result.start (first_column kind)) (set c.args.records.now count x) (count + 1) put.new.records put.result)
    c.number.ensures put.ensures)
