-- The lines that the bounds program prints.
use Rattle.std.specs.Prelude.{ℕ, zero, suc, Bool, true, false, Option, Some, None, List, [], ◌++◌}
use Rattle.table.specs.declared.Task.{Task}
use Rattle.table.specs.declared.Refusal.{Refusal}
use Rattle.table.specs.WellFormed.{task_of}
use Rattle.analysis.specs.declared.Analysis.{Analysis}
use Rattle.analysis.specs.declared.TaskAnswer.{TaskAnswer}
use Rattle.analysis.specs.declared.TaskAnswer.TheVariants.{Bound, Conditional, Nothing}
use Rattle.analysis.specs.Analysing.{analysed}
use Rattle.analysis.specs.Answering.{answer_at}
use Rattle.words.specs.Text.{text, labelled, newline}
use Rattle.words.specs.Refusing.{refusal_line}

-- the verdict and the total
abbrev pub verdict_text : Bool → ℕ → List ℕ
verdict_text true evaluations = labelled (text "verdict yes evaluations ") evaluations
verdict_text false evaluations = labelled (text "verdict no evaluations ") evaluations

-- what a task is answered
abbrev pub answer_text : TaskAnswer → List ℕ
answer_text (Bound value) = labelled (text " bound ") value
answer_text (Conditional value) = labelled (text " if ") value
answer_text Nothing = text " none"

-- a task: its priority, its answer, its deadline
abbrev pub task_line : Task → TaskAnswer → List ℕ
task_line task answer = labelled [] task.priority ++ (answer_text answer ++ (labelled (text " deadline ") task.deadline ++ newline))

-- the first k tasks
unfoldable pub task_lines : List ℕ → Analysis → ℕ → List ℕ
task_lines s a zero = []
task_lines s a (suc k) = task_lines s a k ++ task_line (task_of s k) (answer_at a k)

-- a refusal's line alone, or where there is none, a text
abbrev pub refusal_or : Option Refusal → List ℕ → List ℕ
refusal_or (Some refusal) t = refusal_line refusal
refusal_or None t = t

-- a refusal alone, or the verdict and then every task
abbrev pub lines_of : List ℕ → Analysis → List ℕ
lines_of s a = refusal_or a.refusal (verdict_text a.verdict a.evaluations ++ (newline ++ task_lines s a a.tasks))

-- what the bounds program prints of a table's bytes
abbrev pub printed : List ℕ → ℕ → List ℕ
printed s allowance = lines_of s (analysed s allowance)
