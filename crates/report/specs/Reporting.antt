-- What a report answers on a table's bytes, and what it leaves in the rows that the host lends.
use Rattle.std.specs.Prelude.{ℕ, false, cond, List, ◌++◌, ltb, length, drop, Some, Ok, Err}
use Rattle.searches.specs.Indexed.{every}
use Rattle.table.specs.declared.Refusal.{Refusal}
use Rattle.table.specs.declared.Why.TheVariants.{Rows}
use Rattle.table.specs.declared.Task.{Task}
use Rattle.table.specs.Reading.{Reading, read_table}
use Rattle.table.specs.WellFormed.{task_of}
use Rattle.analysis.specs.declared.Analysis.{Analysis}
use Rattle.analysis.specs.declared.TaskAnswer.{TaskAnswer}
use Rattle.analysis.specs.declared.TaskAnswer.TheVariants.{Bound, Conditional, Nothing}
use Rattle.analysis.specs.Analysing.{analysed}
use Rattle.analysis.specs.Answering.{answer_at}
use Rattle.report.specs.declared.Reported.{Reported}
use Rattle.report.specs.declared.Row.{Row}

-- ---- rows

-- the number of an answer: 0 for none, 1 for a bound, 2 for a conditional value
abbrev pub answer_number : TaskAnswer → ℕ
answer_number (Bound t) = 1
answer_number (Conditional t) = 2
answer_number Nothing = 0

-- the value of an answer, 0 for none
abbrev pub answer_value : TaskAnswer → ℕ
answer_value (Bound t) = t
answer_value (Conditional t) = t
answer_value Nothing = 0

-- the row of a task and its answer
abbrev pub row_of : Task → TaskAnswer → Row
row_of t a = record { priority = t.priority; answer = answer_number a; value = answer_value a; deadline = t.deadline }

-- the row of the task at place i of a table, as an analysis answers it
abbrev pub task_row : List ℕ → Analysis → ℕ → Row
task_row s a i = row_of (task_of s i) (answer_at a i)

-- ---- the reply

-- a refusal: no tasks, no verdict, no evaluations
abbrev pub refused_by : Refusal → Reported
refused_by f = record { refusal = Some f; tasks = 0; verdict = false; evaluations = 0 }

-- what an analysis answers of the table as a whole
abbrev pub summary : Analysis → Reported
summary a = record { refusal = a.refusal; tasks = a.tasks; verdict = a.verdict; evaluations = a.evaluations }

-- by what the bytes are read as: refused with 1 to 7; then with 9 where fewer rows are lent than there are tasks; else what the analysis answers,
-- which may be 8
unfoldable pub reported_as : Reading → List ℕ → ℕ → ℕ → Reported
reported_as (Err f) s allowance room = refused_by f
reported_as (Ok h) s allowance room = cond (ltb room h.tasks) (refused_by (record { why = Rows; place = 0 })) (summary (analysed s allowance))

-- the report on a table's bytes under an allowance of evaluations, where so many rows are lent
abbrev pub reported : List ℕ → ℕ → ℕ → Reported
reported s allowance room = reported_as (read_table s) s allowance room

-- the lent rows afterwards: one for each task that the report tells of, in table order, and later rows as they were. A refusal tells of none
abbrev pub rows_after : List ℕ → ℕ → List Row → List Row
rows_after s allowance rows =
    let tasks = (reported s allowance (length rows)).tasks in
    every (task_row s (analysed s allowance)) tasks 0 ++ drop tasks rows
