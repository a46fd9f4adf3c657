-- What is so of a line that was taken off a text. For the proofs of private functions: no promise to a caller.
use Rattle.std.specs.Prelude.{ℕ, ◌+◌, ◌≤◌, ◌≡◌, List, length, Result, Ok, Err}
use Rattle.words.specs.Finding.{run_end, word_start}
use Rattle.words.specs.Writing.{Put}
use Rattle.notation.specs.declared.rows.Cell.{Cell as Value}
use Rattle.notation.specs.declared.rows.Misfit.{Misfit}
use Rattle.notation.specs.declared.rows.Taken.{Taken}
use Rattle.notation.specs.Causes.{cause_number}
use Rattle.notation.specs.Columns.{column_or_none}
use Rattle.notation.specs.Rows.{Cell, Row}

-- a word of a text that was looked for from a place on: it stands from b to e, and is empty where the line or the text ends
pub record Found (s : List ℕ) (at b e : ℕ) : Type 0 where
  pub start : b ≡ word_start s at
  pub end : e ≡ run_end s b 1
  pub first : b ≤ length s
  pub last : e ≤ length s

-- what is wrong is what is meant: its cause, which is some, its column and its place, which is within the text
pub record Misfits (s : List ℕ) (number column place : ℕ) (m : Misfit) : Type 0 where
  pub cause : number ≡ cause_number m.cause
  pub some : 1 ≤ number
  pub named : column ≡ column_or_none m.column
  pub at : place ≡ m.at
  pub within : m.at ≤ length s

-- a value is that of a cell without fault, and ends within the text
pub record Valued (s : List ℕ) (cell : Cell) (v : Value) : Type 0 where
  pub cause : cell.cause ≡ 0
  pub end : cell.end ≡ v.end
  pub value : cell.value ≡ v.value
  pub within : v.end ≤ length s

-- a cell of a column is read as it is
abbrev pub CellRead : List ℕ → ℕ → Cell → Result Value Misfit → Type 0
CellRead s c cell (Ok v) = Valued s cell v
CellRead s c cell (Err m) = Misfits s cell.cause c cell.at m

-- what is taken is a row without fault: where its words end, within the text, and where its bytes end that are put at a place
pub record Rowed (s : List ℕ) (row : Row) (n : ℕ) (taken : Taken) : Type 0 where
  pub cause : row.cause ≡ 0
  pub at : row.at ≡ taken.at
  pub count : taken.count ≡ n + length row.bytes
  pub within : taken.at ≤ length s

-- a row is read as it is
abbrev pub RowRead : List ℕ → Row → ℕ → Result Taken Misfit → Type 0
RowRead s row n (Ok taken) = Rowed s row n taken
RowRead s row n (Err m) = Misfits s row.cause row.column row.at m

-- a line is taken as it reads, its bytes put at a place, also those before a fault
pub record TakenPut (s : List ℕ) (row : Row) (before : List ℕ) (n : ℕ) (after : List ℕ) (r : Result Taken Misfit) : Type 0 where
  pub read : RowRead s row n r
  pub put : Put before n row.bytes after (n + length row.bytes)
