-- What is left of `notation::showing::put_row`.
use Prim.Native.Nat.{ℕ}
use mathlib.Core.Path.{ap, ◌∙◌}
use mathlib.Core.List.{◌++◌}
use native.Mathlib.Omega.{arith}
use lib.ListN.{get_or}
use Rattle.words.specs.Pages.{sheet}
use Rattle.notation.specs.declared.columns.Column.TheVariants.{Task}
use Rattle.notation.specs.Columns.{column_number, field_at}
use Rattle.notation.specs.Kinds.{first_column, column_count}
use Rattle.notation.specs.Showing.{cell_text, row_text}
use Rattle.notation.proofs.Sizes.{cell_most, row_most}
use Rattle.notation.proofs.Views.{columns_many, number_there}
use Rattle.notation.proofs.Showings.{put_nothing, put_more, room_left, row_none, row_more}
use Rattle.notation.proofs.showing.put_row.Goals as goal

pub put_cell-requires : goal.put_cell-requires
put_cell-requires c =
    let first = first_column c.args.kind in
    let i = c.loop-column.column-index in
    let many = columns_many _ first (column_count c.args.kind) c.columns-column-items.ensures in
    let left = room_left (sheet c.args.page.now) (sheet c.loop-column.page) (row_text c.args.bytes.now first i c.args.place) c.loop-column.invariant in
    omega (arith, c.requires.1, many, c.loop-column-test.true, left, row_most c.args.bytes.now first i c.args.place, cell_most)

pub loop-column-init : goal.loop-column-init
loop-column-init c = put_nothing _ _ (row_none c.args.bytes.now (first_column c.args.kind) c.args.place)

pub loop-column-preserved : goal.loop-column-preserved
loop-column-preserved c =
    let s = c.args.bytes.now in
    let first = first_column c.args.kind in
    let i = c.loop-column.column-index in
    let there = number_there _ first (column_count c.args.kind) i _ c.columns-column-items.ensures c.loop-column-test.true in
    put_more _ (sheet c.loop-column.page) _ (row_text s first i c.args.place) _ _ c.loop-column.invariant c.put_cell.ensures
    (ap (λ (v : ℕ). row_text s first i c.args.place ++ cell_text (column_number (get_or c.columns-column-items.result.now i Task)) v) c.field_at.ensures
    ∙ ap (λ (k : ℕ). row_text s first i c.args.place ++ cell_text k (field_at s c.args.place k)) there
    ∙ row_more s first i c.args.place)
