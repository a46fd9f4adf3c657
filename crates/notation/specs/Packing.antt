-- What a text is packed as: line by line, the first at fault decides.
use Rattle.std.specs.Prelude.{ℕ, zero, suc, ◌+◌, cond, List, [], ◌∷◌, ◌++◌, ltb, leb, eqb, length, Ok, Err}
use Rattle.table.specs.Replies.{why_number}
use Rattle.table.specs.Reading.{Reading, read_table}
use Rattle.words.specs.Finding.{next_line}
use Rattle.notation.specs.declared.stepping.Position.{Position}
use Rattle.notation.specs.Numbered.{Fault, Packing, Packed, Faulty}
use Rattle.notation.specs.Rows.{row_at}
use Rattle.notation.specs.Reasons.{reason_at}

-- the longest text that is packed
abbrev pub longest : ℕ
longest = 262144

-- what is answered of a text, and the bytes of its table: none where it has a fault
pub record Outcome : Type 0 where
  pub packing : Packing
  pub bytes : List ℕ

-- a fault
abbrev pub faulty : Fault → Outcome
faulty f = record { packing = Faulty f; bytes = [] }

-- a fault of the whole text: 17 no task, 18 too long, 19 no room
abbrev pub whole : ℕ → ℕ → Outcome
whole line cause = faulty (record { line = line; cause = cause; column = 11; at = 0; value = 0; other = 0 })

-- the bytes of a table
abbrev pub packed : List ℕ → Outcome
packed s = record { packing = Packed (length s); bytes = s }

-- on to the next line, with the records so far, or the end
pub data Step : Type 0 where
  on : Position → List ℕ → Step
  over : Outcome → Step

-- past the line that has a place, with so many bytes and tasks so far
abbrev pub past : List ℕ → Position → ℕ → ℕ → ℕ → Position
past s w at count n = record { at = next_line s at; line = w.line + 1; count = count; tasks = n }

-- a record, by what the reader says of it after those before it, with an end
abbrev pub judged : Reading → List ℕ → Position → ℕ → List ℕ → Step
judged (Ok h) s w at records = on (past s w at (length records) h.tasks) records
judged (Err r) s w at records =
    let why = reason_at records w.count w.tasks (why_number r.why) in
    over (faulty (record { line = w.line; cause = why.cause; column = 11; at = 0; value = why.value; other = why.other }))

-- a line, after the records so far
unfoldable pub line_step : List ℕ → Position → List ℕ → Step
line_step s w records =
    let row = row_at s w.at in
    cond (eqb row.cause 0)
    (cond (eqb (length row.bytes) 0) (on (past s w row.at w.count w.tasks) records)
    (judged (read_table ((records ++ row.bytes) ++ 3 ∷ [])) s w row.at (records ++ row.bytes)))
    (over (faulty (record { line = w.line; cause = row.cause; column = row.column; at = row.at; value = 0; other = 0 })))

-- the end of the text: the records so far with an end, where the reader accepts them
abbrev pub ended : Reading → Position → List ℕ → Outcome
ended (Ok h) w s = packed s
ended (Err r) w s = whole w.line 17

unfoldable pub end_of : Position → List ℕ → Outcome
end_of w records = ended (read_table (records ++ 3 ∷ [])) w (records ++ 3 ∷ [])

-- one line further
unfoldable pub step_at : List ℕ → Position → List ℕ → Step
step_at s w records = cond (leb (length s) w.at) (over (end_of w records)) (line_step s w records)

-- the answer where there is one, else what the rest of the text gives
abbrev pub onward : Step → (Position → List ℕ → Outcome) → Outcome
onward (on w records) f = f w records
onward (over o) f = o

-- at most k lines from a place on
unfoldable pub pack_from : ℕ → List ℕ → Position → List ℕ → Outcome
pack_from zero s w records = whole w.line 17
pack_from (suc k) s w records = onward (step_at s w records) (pack_from k s)

-- before the first line
abbrev pub start : Position
start = record { at = 0; line = 1; count = 0; tasks = 0 }

-- what a whole text is packed as: each line has a byte at least, so the count of lines never decides
unfoldable pub pack_text : List ℕ → Outcome
pack_text s = cond (ltb longest (length s)) (whole 1 18) (pack_from (length s + 1) s start [])

-- with room for so many bytes
abbrev pub pack_into : ℕ → List ℕ → Outcome
pack_into room s = cond (ltb room (length (pack_text s).bytes)) (whole 1 19) (pack_text s)
