-- The loops of `notation::showing::put_row`.
use Rattle.words.specs.Pages.{Puts}
use Rattle.notation.specs.Kinds.{first_column}
use Rattle.notation.specs.Showing.{row_text}
use Rattle.notation.proofs.showing.put_row.Given as goal

abbrev pub invariant-loop-column : goal.invariant-loop-column
invariant-loop-column l = Puts l.initial.page (row_text l.bytes (first_column l.fn.kind) l.column-index l.place) l.page
