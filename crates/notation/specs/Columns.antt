-- The columns of a line, by number: 0 to 6 a task's, 7 to 10 a use's, 11 none.
use Rattle.std.specs.Prelude.{ℕ, ◌+◌, ◌*◌, ◌-◌, ◌%◌, Bool, cond, ◌&&◌, ◌||◌, List, [], ◌∷◌, ltb, leb, eqb, get_or, map, Option, Some, None}
use Rattle.notation.specs.declared.columns.Column.{Column}
use Rattle.notation.specs.declared.columns.Column.TheVariants.{Task, Setting, Sleeps, Run, Sleep, Deadline, Period, Use, Resource, Times, Length}
use Rattle.table.specs.Fields.{word_at}
use Rattle.held.specs.Writing.{word_bytes}
use Rattle.words.specs.Text.{text}

-- a column's number
abbrev pub column_number : Column → ℕ
column_number Task = 0
column_number Setting = 1
column_number Sleeps = 2
column_number Run = 3
column_number Sleep = 4
column_number Deadline = 5
column_number Period = 6
column_number Use = 7
column_number Resource = 8
column_number Times = 9
column_number Length = 10

-- and that of a column or none
abbrev pub column_or_none : Option Column → ℕ
column_or_none (Some c) = column_number c
column_or_none None = 11

-- the columns in the order of their numbers
abbrev pub columns : List Column
columns = Task ∷ Setting ∷ Sleeps ∷ Run ∷ Sleep ∷ Deadline ∷ Period ∷ Use ∷ Resource ∷ Times ∷ Length ∷ []

-- the column that has a number, if one has
abbrev pub column_of : ℕ → Option Column
column_of n = get_or (map Some columns) n None

-- the name that stands before the value
unfoldable pub name : ℕ → List ℕ
name c =
    cond (eqb c 0) (text "task")
    (cond (eqb c 1) (text "setting")
    (cond (eqb c 2) (text "sleeps")
    (cond (eqb c 3) (text "run")
    (cond (eqb c 4) (text "sleep")
    (cond (eqb c 5) (text "deadline")
    (cond (eqb c 6) (text "period")
    (cond (eqb c 7) (text "use")
    (cond (eqb c 8) (text "resource")
    (cond (eqb c 9) (text "times")
    (cond (eqb c 10) (text "length") []))))))))))

-- the least value: 0 for a setting, sleeps and a sleep
unfoldable pub least : ℕ → ℕ
least c = cond (eqb c 1 || (eqb c 2 || eqb c 4)) 0 1

-- the largest value
unfoldable pub most : ℕ → ℕ
most c =
    cond (eqb c 1) 254
    (cond (eqb c 2) 64
    (cond (eqb c 8) 16
    (cond (eqb c 0 || (eqb c 7 || eqb c 9)) 255 1000000)))

-- how many digits show lays out for the value
unfoldable pub width : ℕ → ℕ
width c =
    cond (eqb c 2 || eqb c 8) 2
    (cond (eqb c 0 || (eqb c 1 || eqb c 9)) 3
    (cond (eqb c 7) 4 7))

-- a value of four bytes: a time
unfoldable pub wide : ℕ → Bool
wide c = (leb 3 c && leb c 6) || eqb c 10

-- where the value starts in its record
unfoldable pub offset : ℕ → ℕ
offset c = cond (ltb c 3) (c + 1) (cond (ltb c 7) (4 * c - 8) (c - 6))

-- the column's value in the record that starts at i
unfoldable pub field_at : List ℕ → ℕ → ℕ → ℕ
field_at s i c = cond (wide c) (word_at s (i + offset c)) (get_or s (i + offset c) 0)

-- a value of the column as bytes: four, low byte first, or one
unfoldable pub value_bytes : ℕ → ℕ → List ℕ
value_bytes c v = cond (wide c) (word_bytes v) (v % 256 ∷ [])
