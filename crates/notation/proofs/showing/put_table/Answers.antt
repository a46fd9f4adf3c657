-- What is left of `notation::showing::put_table`.
use native.Mathlib.Omega.{arith}
use Rattle.words.specs.Pages.{sheet}
use Rattle.notation.specs.Showing.{rows_text}
use Rattle.notation.proofs.Sizes.{rows_most}
use Rattle.notation.proofs.Showings.{room_left}
use Rattle.notation.proofs.showing.put_table.Goals as goal

pub put_rows-requires-2 : goal.put_rows-requires-2
put_rows-requires-2 c =
    let lines = rows_text c.args.bytes.now 0 7 0 20 c.args.shape.tasks in
    let left = room_left (sheet c.text-2.new.self) (sheet c.put_rows.new.page) lines c.put_rows.ensures in
    let first = room_left (sheet c.args.page.now) (sheet c.text.new.self) _ c.text.ensures in
    let second = room_left (sheet c.text.new.self) (sheet c.text-2.new.self) _ c.text-2.ensures in
    let rows = rows_most c.args.bytes.now 0 7 0 20 c.args.shape.tasks in
    (c.requires.1, c.requires.2, omega (arith, c.requires.0, c.requires.2, c.requires.3, left, first, second, rows))
