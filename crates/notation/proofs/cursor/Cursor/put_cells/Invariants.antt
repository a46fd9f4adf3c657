-- The loops of `notation::cursor::Cursor::put_cells`.
use Rattle.notation.specs.Kinds.{first_column, column_count}
use Rattle.notation.proofs.Rowing.{Filled}
use Rattle.notation.proofs.cursor.Cursor.put_cells.Given as goal

abbrev pub invariant-loop-column : goal.invariant-loop-column
invariant-loop-column l = Filled l.text l.self.at (first_column l.fn.kind) (column_count l.fn.kind) l.initial.records l.count l.records l.column-index l.place l.end
