-- The text of a table: a heading, then a line for each task and each use, in columns.
use Rattle.std.specs.Prelude.{ℕ, ◌+◌, ◌*◌, ◌-◌, cond, ◌||◌, List, ◌∷◌, ◌++◌, eqb, length, replicate, Ok, Err}
use Rattle.table.specs.Reading.{Reading, read_table}
use Rattle.words.specs.Text.{text, decimal, newline, joined}
use Rattle.words.specs.Refusing.{refusal_line}
use Rattle.notation.specs.Columns.{name, width, field_at}

-- the comment at the head
abbrev pub heading : List ℕ
heading =
    text "# A task table: first the tasks, by falling priority, then their uses of resources, in the same order."
    ++ (newline ++ (text "# run, sleep, deadline, period and length are times, all in one unit; docs/NOTATION.md has the ranges." ++ newline))

-- a value, right under right
abbrev pub padded : ℕ → ℕ → List ℕ
padded c v = 32 ∷ (replicate (width c - length (decimal v)) 32 ++ decimal v)

-- two spaces after a value, a new line after the last
abbrev pub spacing : ℕ → List ℕ
spacing c = cond (eqb c 6 || eqb c 10) newline (text "  ")

-- a column's name and value
unfoldable pub cell_text : ℕ → ℕ → List ℕ
cell_text c v = name c ++ (padded c v ++ spacing c)

-- the line of the record that starts at i, of k columns from c on
unfoldable pub row_text : List ℕ → ℕ → ℕ → ℕ → List ℕ
row_text s c k i = joined (λ (j : ℕ). cell_text j (field_at s i j)) k c

-- the lines of n records, which start at a place and have a size
unfoldable pub rows_text : List ℕ → ℕ → ℕ → ℕ → ℕ → ℕ → List ℕ
rows_text s c k from size n = joined (λ (j : ℕ). row_text s c k (from + size * j)) n 0

-- the whole text of a table with so many tasks and uses, which start at a place
abbrev pub table_text : List ℕ → ℕ → ℕ → ℕ → List ℕ
table_text s tasks from uses = heading ++ (rows_text s 0 7 0 20 tasks ++ rows_text s 7 4 from 8 uses)

-- by what the table is read as: its text, or the line of its refusal
abbrev pub shown_by : Reading → List ℕ → List ℕ
shown_by (Ok h) s = table_text s h.tasks h.uses_at h.uses
shown_by (Err r) s = refusal_line r

-- what show prints of a table's bytes
unfoldable pub shown : List ℕ → List ℕ
shown s = shown_by (read_table s) s
