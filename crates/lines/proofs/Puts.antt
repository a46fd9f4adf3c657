-- The lines of the tasks, one after the other.
use Rattle.std.proofs.Common.{◌≡◌, ℕ, zero, suc, ◌+◌, ◌*◌, ◌≤◌, ◌<◌, List, [], ◌++◌, length, refl, arith, add-one, length-append, Bool, true, false, Option, Some, None}
use Rattle.std.proofs.lemmas.Grind.{common_steps}
use native.Mathlib.Decide.{dec_lt}
use Rattle.table.specs.declared.Task.{Task}
use Rattle.table.specs.declared.Refusal.{Refusal}
use Rattle.table.specs.WellFormed.{task_of}
use Rattle.analysis.specs.declared.Analysis.{Analysis}
use Rattle.analysis.specs.declared.TaskAnswer.{TaskAnswer}
use Rattle.analysis.specs.declared.TaskAnswer.TheVariants.{Bound, Conditional, Nothing}
use Rattle.analysis.specs.Answering.{answer_at}
use Rattle.words.specs.Text.{newline}
use Rattle.words.proofs.Words.{decimal_few, refusal_few}
use Rattle.lines.specs.Lines.{verdict_text, answer_text, task_line, task_lines, refusal_or, lines_of}

-- none
pub task_lines_none : (s : List ℕ) (a : Analysis) → task_lines s a 0 ≡ []
unfolding task_lines
task_lines_none s a = refl

-- one more
pub task_lines_more : (s : List ℕ) (a : Analysis) (i : ℕ) → task_lines s a (i + 1) ≡ task_lines s a i ++ task_line (task_of s i) (answer_at a i)
unfolding task_lines
task_lines_more s a i = rw add-one refl

-- the lines before a task's and its own are no longer than all
pub task_lines_grow : (s : List ℕ) (a : Analysis) (i k : ℕ) → i < k → length (task_lines s a i) + length (task_line (task_of s i) (answer_at a i)) ≤ length (task_lines s a k)
unfolding task_lines
task_lines_grow s a i zero l = absurd (omega arith)
task_lines_grow s a i (suc k) l = go (dec_lt i k) (task_lines_grow s a i k)
  where
    longer : length (task_lines s a (suc k)) ≡ length (task_lines s a k) + length (task_line (task_of s k) (answer_at a k))
    longer = length-append (task_lines s a k) (task_line (task_of s k) (answer_at a k))

    go : Dec (i < k) → (i < k → length (task_lines s a i) + length (task_line (task_of s i) (answer_at a i)) ≤ length (task_lines s a k))
        → length (task_lines s a i) + length (task_line (task_of s i) (answer_at a i)) ≤ length (task_lines s a (suc k))
    go (yes h) fewer = omega (arith, fewer h, longer)
    go (no h) fewer =
        let last : i ≡ k = omega arith in
        rw last (omega (arith, longer))

-- what a task is answered
pub answer_few : (answer : TaskAnswer) → length (answer_text answer) ≤ 27
answer_few (Bound value) = grind (arith, common_steps, decimal_few value)
answer_few (Conditional value) = grind (arith, common_steps, decimal_few value)
answer_few Nothing = omega arith

-- a task's line
pub task_line_few : (task : Task) (answer : TaskAnswer) → length (task_line task answer) ≤ 80
task_line_few task answer = grind (arith, common_steps, decimal_few task.priority, answer_few answer, decimal_few task.deadline)

-- the lines of tasks
pub task_lines_few : (s : List ℕ) (a : Analysis) (k : ℕ) → length (task_lines s a k) ≤ 80 * k
unfolding task_lines
task_lines_few s a zero = omega arith
task_lines_few s a (suc k) = grind (arith, common_steps, task_lines_few s a k, task_line_few (task_of s k) (answer_at a k))

-- the verdict
pub verdict_few : (verdict : Bool) (evaluations : ℕ) → length (verdict_text verdict evaluations) ≤ 44
verdict_few true evaluations = grind (arith, common_steps, decimal_few evaluations)
verdict_few false evaluations = grind (arith, common_steps, decimal_few evaluations)

-- all that is printed of an analysis
pub lines_few : (s : List ℕ) (a : Analysis) → a.tasks ≤ 32 → length (lines_of s a) ≤ 4096
lines_few s a l = go a.refusal
  where
    go : (r : Option Refusal) → length (refusal_or r (verdict_text a.verdict a.evaluations ++ (newline ++ task_lines s a a.tasks))) ≤ 4096
    go (Some refusal) = omega (arith, refusal_few refusal)
    go None = grind (arith, common_steps, verdict_few a.verdict a.evaluations, task_lines_few s a a.tasks)
