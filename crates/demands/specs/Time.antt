-- In time: where the bounds program prints `verdict yes` for a table, and the jobs keep to that table, the work of no job is ever later than the bound
-- in its task's line; and a job that is completed at the instant at which its work ends is over by then, and misses no deadline. What it is to keep to
-- a table, and to be over in time, is in `timing`'s Statement: releases of a task are T apart; a job executes in C ticks at most, sleeps through S
-- at most, and stays in a section for L at most. That it makes no more than X sleeps and opens no section more than N times, the scheduler sees to.
use Rattle.std.specs.Prelude.{ℕ, suc, ◌+◌, ◌≤◌, ◌<◌, ◌≡◌, true, List, [], ◌++◌}
use Rattle.std.proofs.Common.{ap, arith}
use Rattle.table.specs.declared.Shape.{Shape}
use Rattle.std.specs.Prelude.{Ok}
use Rattle.table.specs.Reading.{read_table}
use Rattle.table.specs.WellFormed.{task_of}
use Rattle.analysis.specs.declared.TaskAnswer.TheVariants.{Bound}
use Rattle.analysis.specs.Analysing.{analysed}
use Rattle.analysis.specs.Answering.{answer_at}
use Rattle.analysis.proofs.Replies as replies
use Rattle.words.specs.Text.{text, labelled, newline}
use Rattle.lines.specs.Lines.{verdict_text, task_line, task_lines, printed}
use Rattle.protocol.specs.Checks.{Call}
use Rattle.protocol.specs.Trace.{released}
use Rattle.protocol.proofs.Listed.{in_turn}
use Rattle.protocol.proofs.Former.{above_system}
use Rattle.scheduler.specs.declared.Scheduler.{Scheduler}
use Rattle.scheduler.specs.declared.Reply.{Reply}
use Rattle.scheduler.specs.View.{table_of}
use Rattle.scheduler.specs.Replies.{replied}
use Rattle.scheduler.specs.Fresh.{fresh_of}
use Rattle.arrays.specs.Denials.{refusal_number}
use Rattle.scheduler.specs.Driven.{Driven}
use Rattle.scheduler.proofs.Theorems.{driven}
use Rattle.timing.specs.Statement.{Clock, At, seen, seen_under, Obeys, Prompt, DoneInTime, OverWithin, InTime, ReleasedInTime}
use Rattle.timing.proofs.Instants.{first_rises}
use Rattle.timing.proofs.Theorems as timing
use Rattle.timing.proofs.Witness as witness
use Rattle.timing.proofs.Needed as needed
use Rattle.timing.proofs.Late as late

module _ {bytes : List ℕ} {h : Shape} {calls : ℕ → Call} {S : ℕ → Scheduler} {R : ℕ → Reply} (D : Driven bytes h calls S R) where
  -- ---- what is printed

  module _ (allowance : ℕ) (yes-all : (analysed bytes allowance).verdict ≡ true) where
    -- where the verdict is yes, it is printed with a line for each task,
    pub printed_whole : printed bytes allowance
        ≡ verdict_text true (analysed bytes allowance).evaluations ++ (newline ++ task_lines bytes (analysed bytes allowance) h.tasks)
    printed_whole =
        let w = replies.yes_unrefused bytes h D.reads allowance yes-all in
        rw (w.0, w.1, yes-all)

    -- and each task is told a bound, from 1 to its deadline,
    pub each_bound : (i : ℕ) → i < h.tasks → (v : ℕ) × (answer_at (analysed bytes allowance) i ≡ Bound v) × (1 ≤ v) × (v ≤ (task_of bytes i).deadline)
    each_bound = replies.yes_told bytes h D.reads allowance yes-all

    -- which stands in its line: `P bound V deadline D`
    pub line_says : (i v : ℕ) → answer_at (analysed bytes allowance) i ≡ Bound v
        → task_line (task_of bytes i) (answer_at (analysed bytes allowance) i)
        ≡ labelled [] (task_of bytes i).priority ++ (labelled (text " bound ") v ++ (labelled (text " deadline ") (task_of bytes i).deadline ++ newline))
    line_says i v told = ap (task_line (task_of bytes i)) told

  -- ---- no job is late

  module _ (K : Clock) (O : Obeys bytes h K (seen calls S R)) (allowance : ℕ) where
    -- the work and the sleep of every job are done within the bound that its task is told: if it is there later, it only waits to be completed
    pub no_work_late : DoneInTime bytes h allowance K (seen calls S R)
    no_work_late = timing.calls_done_in_time D K O allowance

    -- a job that is completed at the instant at which its work ends is over within that bound
    pub no_job_late : InTime bytes h allowance K (seen calls S R)
    no_job_late = timing.calls_in_time D K O allowance

    -- so where the verdict is yes no such job of any task misses its deadline
    pub no_deadline_missed : (analysed bytes allowance).verdict ≡ true → (i a r : ℕ) → i < h.tasks
        → (seen calls S R).event a ≡ released (task_of bytes i).priority → At K a r → Prompt bytes K (seen calls S R) i a r
        → OverWithin K (seen calls S R) (task_of bytes i).priority a r (task_of bytes i).deadline
    no_deadline_missed yes-all i a r lt e p q =
        let w = each_bound allowance yes-all i lt in
        let over = no_job_late i a r w.0 lt w.1 e p q in
        (over.0, over.1, omega (arith, over.2, first_rises K (suc (r + w.0)) (suc (r + (task_of bytes i).deadline)) (omega (arith, w.3))), over.3)

    -- and a release T or more after it is not refused for a job that is still there, unless at the very instant, the bound being T, the call that ends
    -- the job comes after it
    pub next_release : ReleasedInTime bytes h allowance calls K (seen calls S R) (λ k. refusal_number (R k).refusal)
    next_release = timing.calls_released_in_time D K O allowance

-- ---- not empty, nothing asked in vain, and not so of every rule

-- of this table the tasks are told 5 and 6, and in these calls, that keep to it, with sections and a sleep, the jobs are there until just then
pub there_until_then : witness.Reached
    (seen (in_turn witness.calls) (driven witness.bytes (in_turn witness.calls))
    (λ k. replied (driven witness.bytes (in_turn witness.calls) k) (in_turn witness.calls k)))
there_until_then = witness.calls_reached

-- a job that is not completed promptly need not be over: of this table the tasks are told 1 and 3, these calls keep to it, and job 1, which ends with a
-- sleep, is there in the tick 3
pub must_be_prompt : needed.Unprompt
must_be_prompt = needed.unprompt

-- under the former rule it was not so: of this table the verdict is yes, these calls keep to it, and a job misses its deadline
pub former_late : late.Late
former_late = late.former_late

-- save where all settings are 0
pub former_in_time : (bytes : List ℕ) (h : Shape) → read_table bytes ≡ Ok h → ((i : ℕ) → i < h.tasks → (task_of bytes i).setting ≡ 0)
    → (calls : ℕ → Call) (K : Clock) → Obeys bytes h K (seen_under above_system (table_of (fresh_of bytes h)) calls) → (allowance : ℕ)
    → DoneInTime bytes h allowance K (seen_under above_system (table_of (fresh_of bytes h)) calls)
    × InTime bytes h allowance K (seen_under above_system (table_of (fresh_of bytes h)) calls)
former_in_time = timing.former_in_time
