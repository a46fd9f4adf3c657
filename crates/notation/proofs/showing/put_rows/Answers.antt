-- What is left of `notation::showing::put_rows`.
use Prim.Native.Nat.{ℕ, ◌+◌, ◌*◌}
use mathlib.Core.Path.{ap, ◌∙◌}
use mathlib.Core.List.{◌++◌}
use native.Mathlib.Omega.{arith}
use Rattle.words.specs.Pages.{sheet}
use Rattle.notation.specs.Kinds.{first_column, column_count, record_size}
use Rattle.notation.specs.Showing.{row_text, rows_text}
use Rattle.notation.proofs.Sizes.{rows_most, kind_room, kind_place}
use Rattle.notation.proofs.Showings.{put_nothing, put_more, room_left, rows_none, rows_more}
use Rattle.notation.proofs.showing.put_rows.Goals as goal

pub loop-i-init : goal.loop-i-init
loop-i-init c = put_nothing _ _ (rows_none c.args.bytes.now (first_column c.args.kind) (column_count c.args.kind) c.args.from (record_size c.args.kind))

pub put_row-requires : goal.put_row-requires
put_row-requires c =
    let kind = c.args.kind in
    let i = c.loop-i.i in
    let lines = rows_text c.args.bytes.now (first_column kind) (column_count kind) c.args.from (record_size kind) i in
    let left = room_left (sheet c.args.page.now) (sheet c.loop-i.page) lines c.loop-i.invariant in
    let here = ap (λ (n : ℕ). n * i) c.size.ensures in (
      omega (arith, c.requires.0, c.requires.1, c.loop-i-test.true, here, kind_place kind i),
      omega (
        arith,
        c.requires.2,
        left,
        rows_most c.args.bytes.now (first_column kind) (column_count kind) c.args.from (record_size kind) i,
        kind_room kind i c.args.count c.loop-i-test.true,
      ),
    )

pub loop-i-preserved : goal.loop-i-preserved
loop-i-preserved c =
    let s = c.args.bytes.now in
    let first = first_column c.args.kind in
    let many = column_count c.args.kind in
    let size = record_size c.args.kind in
    let i = c.loop-i.i in
    put_more _ (sheet c.loop-i.page) _ (rows_text s first many c.args.from size i) _ _ c.loop-i.invariant c.put_row.ensures
    (ap (λ (n : ℕ). rows_text s first many c.args.from size i ++ row_text s first many (c.args.from + n * i)) c.size.ensures
    ∙ rows_more s first many c.args.from size i)
