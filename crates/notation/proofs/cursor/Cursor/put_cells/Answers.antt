-- What is left of `notation::cursor::Cursor::put_cells`.
use native.Mathlib.Omega.{arith}
use Rattle.std.proofs.lemmas.Result.{err_from_is_err_and}
use Rattle.notation.specs.Kinds.{first_column, column_count}
use Rattle.notation.proofs.Views.{columns_many, number_there}
use Rattle.notation.proofs.Rowing.{filled_more, filled_fault, filled_end}
use Rattle.notation.proofs.cursor.Cursor.put_cells.Goals as goal

pub returns-in_err-cell : goal.returns-in_err-cell
returns-in_err-cell c =
    let first = first_column c.args.kind in
    let p = err_from_is_err_and c.from_residual.result c.from_residual.ensures.1 in
    let many = columns_many _ first (column_count c.args.kind) c.columns-column-items.ensures in
    let there = number_there _ first (column_count c.args.kind) c.loop-column.column-index _ c.columns-column-items.ensures c.loop-column-test.true in
    let m = c.in_err-cell.field-0.0 in
    let wrong = c.in_err-cell.ensures in
    rw (p.1, p.2) (filled_fault c.loop-column.invariant c.requires _ there m (omega (arith, many, c.loop-column-test.true)) (λ z. omega (arith, wrong.some)) wrong)

pub loop-column-preserved : goal.loop-column-preserved
loop-column-preserved c =
    let first = first_column c.args.kind in
    let many = columns_many _ first (column_count c.args.kind) c.columns-column-items.ensures in
    let there = number_there _ first (column_count c.args.kind) c.loop-column.column-index _ c.columns-column-items.ensures c.loop-column-test.true in
    let put = c.put_value-end in
    filled_more c.loop-column.invariant c.requires _ there c.in_ok-cell.cell put.new.records put.result
    (omega (arith, many, c.loop-column-test.true)) c.in_ok-cell.ensures put.ensures.put put.ensures.upper_bound

pub returns : goal.returns
returns c =
    let many = columns_many _ (first_column c.args.kind) (column_count c.args.kind) c.columns-column-items.ensures in
    filled_end c.loop-column.invariant c.requires c.row_end.result (omega (arith, many, c.loop-column-test.false)) c.row_end.ensures
