-- What is left of `notation::showing::put_padded`.
use Prim.Native.Nat.{◌+◌}
use mathlib.Core.Path.{◌≡◌, ap, ◌∙◌}
use mathlib.Core.List.{◌++◌}
use native.Mathlib.Omega.{arith}
use lib.ListN.{length, take, length-append}
use lib.Seq.{length-take-le}
use Rattle.words.specs.Pages.{sheet}
use Rattle.words.specs.Text.{decimal}
use Rattle.words.proofs.Texts.{decimal_spelled}
use Rattle.notation.specs.Columns.{column_number}
use Rattle.notation.specs.Showing.{padded}
use Rattle.notation.proofs.Sizes.{padded_most}
use Rattle.notation.proofs.Showings.{eight, padded_is, put_more, room_left}
use Rattle.notation.proofs.showing.put_padded.Goals as goal
use Rattle.notation.proofs.showing.put_padded.Goals.{After-saturating_sub-missing}

-- the spaces and the digits are the value as it is laid out
spelled : (c : After-saturating_sub-missing)
    → take (c.saturating_sub-missing.result + 1) eight ++ take c.decimal-count.result c.decimal-count.new.out ≡ padded (column_number c.args.column) c.args.value
spelled c =
    let count = c.decimal-count in
    let long = length-take-le count.result count.new.out (omega (arith, count.array_long)) in
    padded_is (column_number c.args.column) c.args.value c.saturating_sub-missing.result (take count.result count.new.out)
    (count.ensures.digits ∙ decimal_spelled count.result c.from.result (omega (arith, c.ranges, c.from.ensures)) count.ensures.len ∙ ap decimal c.from.ensures)
    (omega (arith, c.saturating_sub-missing.ensures, c.width.ensures.0, long)) (omega (arith, c.saturating_sub-missing.ensures, c.width.ensures.1))

pub text-requires-2 : goal.text-requires-2
text-requires-2 c =
    let spaces = take (c.saturating_sub-missing.result + 1) eight in
    let digits = take c.decimal-count.result c.decimal-count.new.out in
    omega (
      arith,
      c.requires,
      padded_most (column_number c.args.column) c.args.value,
      ap length (spelled (goal.at.text-requires-2 c).After-saturating_sub-missing),
      length-append spaces digits,
      room_left (sheet c.args.page.now) (sheet c.text.new.self) spaces c.text.ensures,
    )

pub returns : goal.returns
returns c = put_more _ (sheet c.text.new.self) _ _ _ _ c.text.ensures c.text-2.ensures (spelled (goal.at.returns c).After-saturating_sub-missing)
