-- The line that is printed of a fault.
use Rattle.std.specs.Prelude.{ℕ, cond, ◌||◌, List, [], ◌++◌, leb, eqb}
use Rattle.words.specs.Text.{text, labelled, newline}
use Rattle.words.specs.Finding.{word_of, found_text}
use Rattle.notation.specs.Numbered.{Fault, Packing, Packed, Faulty}
use Rattle.notation.specs.Columns.{name, least, most}
use Rattle.notation.specs.Packing.{pack_text}

-- what was expected, up to the name of a column
unfoldable pub expected : ℕ → List ℕ
expected cause =
    cond (eqb cause 1) (text "expected task or use")
    (cond (eqb cause 2) (text "expected ")
    (cond (eqb cause 3) (text "expected a number after ")
    (cond (eqb cause 6) (text "expected the end of the line") [])))

-- between the name and the word that was found
abbrev pub between : ℕ → List ℕ
between cause = cond (eqb cause 4 || eqb cause 5) (text " ") (text ", found ")

-- the limit that a value passes
unfoldable pub limit : ℕ → ℕ → List ℕ
limit cause c =
    cond (eqb cause 4) (labelled (text " is below ") (least c))
    (cond (eqb cause 5) (labelled (text " is above ") (most c)) [])

-- a word at fault
abbrev pub word_text : List ℕ → Fault → List ℕ
word_text s f =
    expected f.cause ++ (name f.column ++ (between f.cause ++ (found_text (word_of s f.at) ++ limit f.cause f.column)))

-- a rule that is broken: the words before its first value, before its second, and after it
unfoldable pub opening : ℕ → List ℕ
opening cause =
    cond (eqb cause 7) (text "setting ")
    (cond (eqb cause 8) (text "sleep ")
    (cond (eqb cause 9) (text "run ")
    (cond (eqb cause 10) (text "deadline ")
    (cond (eqb cause 14) (text "use ")
    (cond (eqb cause 15) (text "resource ")
    (cond (eqb cause 16) (text "the sections of task ") (text "task ")))))))

unfoldable pub middle : ℕ → List ℕ
middle cause =
    cond (eqb cause 7) (text " is not below the priority ")
    (cond (eqb cause 8) (text " needs sleeps above ")
    (cond (eqb cause 9) (text " is above the deadline ")
    (cond (eqb cause 10) (text " is above the period ")
    (cond (eqb cause 11) (text " is one too many: a table has at most ")
    (cond (eqb cause 12) (text " comes after a use of task ")
    (cond (eqb cause 13) (text " is not below the task before it, ")
    (cond (eqb cause 14) (text " is of no task: none before it has the priority ")
    (cond (eqb cause 15) (text " of task ") (text " add up to more than its run ")))))))))

unfoldable pub closing : ℕ → List ℕ
closing cause =
    cond (eqb cause 12) (text ": all tasks come first")
    (cond (eqb cause 15) (text " is out of order: uses follow the order of their tasks, and a task's resources rise") [])

abbrev pub reason_text : Fault → List ℕ
reason_text f = labelled (opening f.cause) f.value ++ (labelled (middle f.cause) f.other ++ closing f.cause)

-- a fault of the whole text
unfoldable pub whole_text : ℕ → List ℕ
whole_text cause =
    cond (eqb cause 17) (text "expected a task, found the end of the text")
    (cond (eqb cause 18) (text "the text is longer than 262144 bytes") (text "the table is longer than the room for it"))

-- what is at fault
abbrev pub fault_text : List ℕ → Fault → List ℕ
fault_text s f = cond (leb f.cause 6) (word_text s f) (cond (leb f.cause 16) (reason_text f) (whole_text f.cause))

-- the line, with its number
abbrev pub fault_line : List ℕ → Fault → List ℕ
fault_line s f = labelled (text "line ") f.line ++ (text ": " ++ (fault_text s f ++ newline))

-- what the pack program prints: the bytes of the table, or the line of the fault
abbrev pub printed_by : Packing → List ℕ → List ℕ → List ℕ
printed_by (Packed n) s bytes = bytes
printed_by (Faulty f) s bytes = fault_line s f

abbrev pub pack_printed : List ℕ → List ℕ
pack_printed s = printed_by (pack_text s).packing s (pack_text s).bytes
