-- What a line of text says: names and values by turns, in the order of the columns; after # nothing counts.
use Rattle.std.specs.Prelude.{ℕ, zero, suc, ◌+◌, cond, List, [], ◌∷◌, ◌++◌, ltb, eqb, length}
use Rattle.words.specs.Finding.{run_end, word_start, word_of, same, is_number, value_of}
use Rattle.notation.specs.Columns.{name, least, most, value_bytes}

-- a column's value and where it ends, with cause 0; or the cause of a fault; and the word that was read
pub record Cell : Type 0 where
  pub cause : ℕ
  pub at : ℕ
  pub end : ℕ
  pub value : ℕ

-- no value: the cause, and the word at fault
abbrev pub no_cell : ℕ → ℕ → Cell
no_cell cause at = record { cause = cause; at = at; end = at; value = 0 }

-- what a word that stands from b to e says as the value of a column: no number is cause 3, one below the column's range 4, above it 5
abbrev pub value_cell : ℕ → ℕ → ℕ → List ℕ → Cell
value_cell c b e w =
    cond (is_number w)
    (cond (ltb (value_of w) (least c)) (no_cell 4 b)
    (cond (ltb (most c) (value_of w)) (no_cell 5 b)
    (record { cause = 0; at = b; end = e; value = value_of w })))
    (no_cell 3 b)

-- the value of a column, from a place on
unfoldable pub number_at : List ℕ → ℕ → ℕ → Cell
number_at s at c = let b = word_start s at in value_cell c b (run_end s b 1) (word_of s b)

-- the name of a column and its value, from a place on: another word than the name is cause 2
unfoldable pub cell_at : List ℕ → ℕ → ℕ → Cell
cell_at s at c =
    let b = word_start s at in
    cond (same (word_of s b) (name c)) (number_at s (run_end s b 1) c) (no_cell 2 b)

-- what a line says: 0 or the cause of its fault, with the column and the word at fault; and the bytes of its record, none of an empty line
pub record Row : Type 0 where
  pub cause : ℕ
  pub column : ℕ
  pub at : ℕ
  pub bytes : List ℕ

-- a line without bytes
abbrev pub no_row : ℕ → ℕ → ℕ → Row
no_row cause c at = record { cause = cause; column = c; at = at; bytes = [] }

-- bytes before those of a row
abbrev pub after : List ℕ → Row → Row
after front row = record { cause = row.cause; column = row.column; at = row.at; bytes = front ++ row.bytes }

-- the end of a line: another word is cause 6
abbrev pub row_end : List ℕ → ℕ → Row
row_end s at = no_row (cond (eqb (length (word_of s at)) 0) 0 6) 11 at

-- a cell, and the row after it
abbrev pub with_cell : ℕ → Cell → Row → Row
with_cell c cell row = cond (eqb cell.cause 0) (after (value_bytes c cell.value) row) (no_row cell.cause c cell.at)

-- k cells, from a place and a column on, and then the end of the line
unfoldable pub cells_from : ℕ → List ℕ → ℕ → ℕ → Row
cells_from zero s at c = row_end s (word_start s at)
cells_from (suc k) s at c = with_cell c (cell_at s at c) (cells_from k s (cell_at s at c).end (c + 1))

-- a line by its first word, which starts at b: empty, a task of kind 1, a use of kind 2, or cause 1
abbrev pub row_by : List ℕ → ℕ → List ℕ → Row
row_by s b w =
    cond (eqb (length w) 0) (no_row 0 11 b)
    (cond (same w (name 0)) (after (1 ∷ []) (cells_from 7 s b 0))
    (cond (same w (name 7)) (after (2 ∷ []) (cells_from 4 s b 7))
    (no_row 1 11 b)))

-- the line from a place on
unfoldable pub row_at : List ℕ → ℕ → Row
row_at s at = let b = word_start s at in row_by s b (word_of s b)
