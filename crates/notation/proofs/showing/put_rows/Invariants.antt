-- The loops of `notation::showing::put_rows`.
use Rattle.words.specs.Pages.{Puts}
use Rattle.notation.specs.Kinds.{first_column, column_count, record_size}
use Rattle.notation.specs.Showing.{rows_text}
use Rattle.notation.proofs.showing.put_rows.Given as goal

abbrev pub invariant-loop-i : goal.invariant-loop-i
invariant-loop-i l = Puts l.initial.page (rows_text l.bytes (first_column l.kind) (column_count l.kind) l.from (record_size l.kind) l.i) l.page
