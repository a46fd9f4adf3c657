-- The kinds of a record, a task or a use: the byte that starts it, its columns and its size.
use Rattle.std.specs.Prelude.{ℕ, cond, List, Option, Some, None}
use Rattle.words.specs.Finding.{same}
use Rattle.notation.specs.declared.kinds.Kind.{Kind}
use Rattle.notation.specs.declared.kinds.Kind.TheVariants.{Task, Use}
use Rattle.notation.specs.Columns.{name}

-- the first byte of a record
abbrev pub kind_number : Kind → ℕ
kind_number Task = 1
kind_number Use = 2

-- the kind that a line's first word names: task, column 0, or use, column 7
abbrev pub kind_named : List ℕ → Option Kind
kind_named w = cond (same w (name 0)) (Some Task) (cond (same w (name 7)) (Some Use) None)

-- the number of its first column
abbrev pub first_column : Kind → ℕ
first_column Task = 0
first_column Use = 7

-- how many columns it has from there on
abbrev pub column_count : Kind → ℕ
column_count Task = 7
column_count Use = 4

-- how many bytes
abbrev pub record_size : Kind → ℕ
record_size Task = 20
record_size Use = 8
