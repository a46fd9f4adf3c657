-- How long what is printed is: no row is empty, the text of a table is below the longest that is packed, and the line of a fault has at most 256 bytes.
use Prim.Native.Nat.{ℕ, ◌+◌, ◌*◌, ◌-◌, ◌≤◌, ◌<◌}
use mathlib.Core.Bool.{◌||◌}
use mathlib.Core.List.{List, ◌++◌}
use native.Mathlib.Omega.{arith}
use lib.Dec.{eqb, leb}
use lib.ListN.{length, replicate, length-append, length-replicate}
use Rattle.words.specs.Finding.{word_of, found_text}
use Rattle.words.specs.Text.{text, decimal, labelled, newline, joined}
use Rattle.words.proofs.Words.{joined_most, decimal_few, labelled_few, found_few}
use Rattle.notation.specs.declared.kinds.Kind.{Kind}
use Rattle.notation.specs.declared.kinds.Kind.TheVariants.{Task, Use}
use Rattle.notation.specs.Columns.{name, least, most, width, field_at}
use Rattle.notation.specs.Kinds.{column_count, record_size}
use Rattle.notation.specs.Numbered.{Fault}
use Rattle.notation.specs.Faults.{expected, between, limit, word_text, opening, middle, closing, reason_text, whole_text, fault_text, fault_line}
use Rattle.notation.specs.Packing.{longest}
use Rattle.notation.proofs.Choosing.{chosen}
use Rattle.notation.specs.Showing.{heading, padded, spacing, cell_text, row_text, rows_text, table_text}

-- ---- a cell

-- a name has at most 8 letters
pub name_most : (c : ℕ) → length (name c) ≤ 8
unfolding name
name_most c =
    chosen (λ (x : List ℕ). length x ≤ 8) (eqb c 0) (omega arith)
    (chosen (λ (x : List ℕ). length x ≤ 8) (eqb c 1) (omega arith)
    (chosen (λ (x : List ℕ). length x ≤ 8) (eqb c 2) (omega arith)
    (chosen (λ (x : List ℕ). length x ≤ 8) (eqb c 3) (omega arith)
    (chosen (λ (x : List ℕ). length x ≤ 8) (eqb c 4) (omega arith)
    (chosen (λ (x : List ℕ). length x ≤ 8) (eqb c 5) (omega arith)
    (chosen (λ (x : List ℕ). length x ≤ 8) (eqb c 6) (omega arith)
    (chosen (λ (x : List ℕ). length x ≤ 8) (eqb c 7) (omega arith)
    (chosen (λ (x : List ℕ). length x ≤ 8) (eqb c 8) (omega arith)
    (chosen (λ (x : List ℕ). length x ≤ 8) (eqb c 9) (omega arith)
    (chosen (λ (x : List ℕ). length x ≤ 8) (eqb c 10) (omega arith) (omega arith)))))))))))

-- a value is laid out over at most 7 digits
width_most : (c : ℕ) → width c ≤ 7
unfolding width
width_most c =
    chosen (λ (n : ℕ). n ≤ 7) (eqb c 2 || eqb c 8) (omega arith)
    (chosen (λ (n : ℕ). n ≤ 7) (eqb c 0 || (eqb c 1 || eqb c 9)) (omega arith) (chosen (λ (n : ℕ). n ≤ 7) (eqb c 7) (omega arith) (omega arith)))

-- what stands after a value
spacing_most : (c : ℕ) → length (spacing c) ≤ 2
spacing_most c = chosen (λ (x : List ℕ). length x ≤ 2) (eqb c 6 || eqb c 10) {x = newline} {y = text "  "} (omega arith) (omega arith)

-- a value as it is laid out
pub padded_most : (c v : ℕ) → length (padded c v) ≤ 28
padded_most c v =
    let fill = width c - length (decimal v) in
    omega (arith, length-append (replicate fill 32) (decimal v), length-replicate {A = ℕ} fill 32, width_most c, decimal_few v)

-- a cell has at most 38 bytes
pub cell_most : (c v : ℕ) → length (cell_text c v) ≤ 38
unfolding cell_text
cell_most c v =
    let fill = width c - length (decimal v) in
    omega (
      arith,
      length-append (name c) (padded c v ++ spacing c),
      length-append (padded c v) (spacing c),
      length-append (replicate fill 32) (decimal v),
      length-replicate {A = ℕ} fill 32,
      name_most c,
      width_most c,
      decimal_few v,
      spacing_most c,
    )

-- ---- rows

-- a task's row has a byte
pub task_some : (s : List ℕ) (i : ℕ) → 1 ≤ length (row_text s 0 7 i)
unfolding row_text joined cell_text name
task_some s i = omega arith

-- and a use's
pub use_some : (s : List ℕ) (i : ℕ) → 1 ≤ length (row_text s 7 4 i)
unfolding row_text joined cell_text name
use_some s i = omega arith

-- a row of k columns
pub row_most : (s : List ℕ) (c k i : ℕ) → length (row_text s c k i) ≤ 38 * k
unfolding row_text
row_most s c k i = joined_most (λ (j : ℕ). cell_text j (field_at s i j)) 38 k c (λ j. cell_most j (field_at s i j))

-- n rows
pub rows_most : (s : List ℕ) (c k from size n : ℕ) → length (rows_text s c k from size n) ≤ 38 * k * n
unfolding rows_text
rows_most s c k from size n = joined_most (λ (j : ℕ). row_text s c k (from + size * j)) (38 * k) n 0 (λ j. row_most s c k (from + size * j))

-- by the kind of its records: one row more has room where a row more is to come
pub kind_room : (kind : Kind) (i n : ℕ) → i < n → 38 * column_count kind * i + 38 * column_count kind ≤ 266 * n
kind_room Task i n h = omega arith
kind_room Use i n h = omega arith

-- and a record stands not far on
pub kind_place : (kind : Kind) (i : ℕ) → record_size kind * i ≤ 20 * i
kind_place Task i = omega arith
kind_place Use i = omega arith

-- the text of a table is below the longest that is packed
pub text_most : (s : List ℕ) (n from m : ℕ) → n ≤ 32 → m ≤ 512 → length (table_text s n from m) ≤ longest
text_most s n from m few fewer =
    let tasks = rows_text s 0 7 0 20 n in
    let uses = rows_text s 7 4 from 8 m in
    let a : length tasks ≤ 266 * n = rows_most s 0 7 0 20 n in
    let b : length uses ≤ 152 * m = rows_most s 7 4 from 8 m in
    omega (arith, length-append heading (tasks ++ uses), length-append tasks uses)

-- ---- the line of a fault

-- what stands around a word at fault
pub expected_most : (n : ℕ) → length (expected n) ≤ 28
unfolding expected
expected_most n =
    chosen (λ (x : List ℕ). length x ≤ 28) (eqb n 1) (omega arith)
    (chosen (λ (x : List ℕ). length x ≤ 28) (eqb n 2) (omega arith)
    (chosen (λ (x : List ℕ). length x ≤ 28) (eqb n 3) (omega arith)
    (chosen (λ (x : List ℕ). length x ≤ 28) (eqb n 6) (omega arith) (omega arith))))

pub between_most : (n : ℕ) → length (between n) ≤ 8
between_most n = chosen (λ (x : List ℕ). length x ≤ 8) (eqb n 4 || eqb n 5) {x = text " "} {y = text ", found "} (omega arith) (omega arith)

pub limit_most : (n c : ℕ) → length (limit n c) ≤ 30
unfolding limit
limit_most n c =
    chosen (λ (x : List ℕ). length x ≤ 30) (eqb n 4) (labelled_few (text " is below ") (least c))
    (chosen (λ (x : List ℕ). length x ≤ 30) (eqb n 5) (labelled_few (text " is above ") (most c)) (omega arith))

word_most : (s : List ℕ) (f : Fault) → length (word_text s f) ≤ 101
word_most s f =
    let found = found_text (word_of s f.at) in
    let last = limit f.cause f.column in
    omega (
      arith,
      length-append (expected f.cause) (name f.column ++ (between f.cause ++ (found ++ last))),
      length-append (name f.column) (between f.cause ++ (found ++ last)),
      length-append (between f.cause) (found ++ last),
      length-append found last,
      expected_most f.cause,
      name_most f.column,
      between_most f.cause,
      found_few (word_of s f.at),
      limit_most f.cause f.column,
    )

-- what stands around the values of a rule
pub opening_most : (n : ℕ) → length (opening n) ≤ 21
unfolding opening
opening_most n =
    chosen (λ (x : List ℕ). length x ≤ 21) (eqb n 7) (omega arith)
    (chosen (λ (x : List ℕ). length x ≤ 21) (eqb n 8) (omega arith)
    (chosen (λ (x : List ℕ). length x ≤ 21) (eqb n 9) (omega arith)
    (chosen (λ (x : List ℕ). length x ≤ 21) (eqb n 10) (omega arith)
    (chosen (λ (x : List ℕ). length x ≤ 21) (eqb n 14) (omega arith)
    (chosen (λ (x : List ℕ). length x ≤ 21) (eqb n 15) (omega arith)
    (chosen (λ (x : List ℕ). length x ≤ 21) (eqb n 16) (omega arith) (omega arith)))))))

pub middle_most : (n : ℕ) → length (middle n) ≤ 48
unfolding middle
middle_most n =
    chosen (λ (x : List ℕ). length x ≤ 48) (eqb n 7) (omega arith)
    (chosen (λ (x : List ℕ). length x ≤ 48) (eqb n 8) (omega arith)
    (chosen (λ (x : List ℕ). length x ≤ 48) (eqb n 9) (omega arith)
    (chosen (λ (x : List ℕ). length x ≤ 48) (eqb n 10) (omega arith)
    (chosen (λ (x : List ℕ). length x ≤ 48) (eqb n 11) (omega arith)
    (chosen (λ (x : List ℕ). length x ≤ 48) (eqb n 12) (omega arith)
    (chosen (λ (x : List ℕ). length x ≤ 48) (eqb n 13) (omega arith)
    (chosen (λ (x : List ℕ). length x ≤ 48) (eqb n 14) (omega arith)
    (chosen (λ (x : List ℕ). length x ≤ 48) (eqb n 15) (omega arith) (omega arith)))))))))

pub closing_most : (n : ℕ) → length (closing n) ≤ 84
unfolding closing
closing_most n =
    chosen (λ (x : List ℕ). length x ≤ 84) (eqb n 12) (omega arith) (chosen (λ (x : List ℕ). length x ≤ 84) (eqb n 15) (omega arith) (omega arith))

reason_most : (f : Fault) → length (reason_text f) ≤ 193
reason_most f =
    let first = labelled (opening f.cause) f.value in
    let second = labelled (middle f.cause) f.other in
    omega (
      arith,
      length-append first (second ++ closing f.cause),
      length-append second (closing f.cause),
      labelled_few (opening f.cause) f.value,
      labelled_few (middle f.cause) f.other,
      opening_most f.cause,
      middle_most f.cause,
      closing_most f.cause,
    )

-- what is wrong with the whole
pub whole_most : (n : ℕ) → length (whole_text n) ≤ 42
unfolding whole_text
whole_most n =
    chosen (λ (x : List ℕ). length x ≤ 42) (eqb n 17) (omega arith) (chosen (λ (x : List ℕ). length x ≤ 42) (eqb n 18) (omega arith) (omega arith))

pub fault_most : (s : List ℕ) (f : Fault) → length (fault_text s f) ≤ 193
fault_most s f =
    chosen (λ (x : List ℕ). length x ≤ 193) (leb f.cause 6) {x = word_text s f} (omega (arith, word_most s f))
    (chosen (λ (x : List ℕ). length x ≤ 193) (leb f.cause 16) {x = reason_text f} {y = whole_text f.cause} (reason_most f) (omega (arith, whole_most f.cause)))

-- the line of a fault has at most 256 bytes
pub line_most : (s : List ℕ) (f : Fault) → length (fault_line s f) ≤ 256
line_most s f =
    let first = labelled (text "line ") f.line in
    omega (
      arith,
      length-append first (text ": " ++ (fault_text s f ++ newline)),
      length-append (fault_text s f) newline,
      labelled_few (text "line ") f.line,
      fault_most s f,
    )
