-- Why the rule in force: under the former one a job was late, though every task is told a bound and the jobs keep to the table.
use Prim.Native.Nat.{ℕ, ◌<◌}
use mathlib.Core.Path.{◌≡◌, refl}
use mathlib.Core.Bool.{true}
use mathlib.Core.List.{List, [], ◌∷◌, ◌++◌}
use native.Mathlib.Omega.{arith}
use Rattle.searches.specs.Searches.{first, best, all, some, largest}
use Rattle.searches.specs.Indexed.{sum_to, every}
use Rattle.table.specs.declared.Shape.{Shape}
use Rattle.std.specs.Prelude.{Ok}
use Rattle.table.specs.Fields.{word_at}
use Rattle.table.specs.Rules.{task_rule, place_from, sum_after, use_rule}
use Rattle.table.specs.Reading.{task_step, use_step, end_step, step_at, read_from, read_table}
use Rattle.table.specs.WellFormed.{task_of}
use Rattle.rounds.specs.Solver.{climb, solve}
use Rattle.rounds.specs.Rounds.{turn, turns, last_from, before_last, analysis, answer}
use Rattle.rounds.specs.Allowance.{allowed}
use Rattle.equations.specs.Bag.{bag_to, sum_of_largest}
use Rattle.equations.specs.Equations.{ceiling, extra, blocking, additions}
use Rattle.analysis.specs.declared.TaskAnswer.TheVariants.{Bound}
use Rattle.analysis.specs.Analysing.{analysed_as, analysed}
use Rattle.analysis.specs.Answering.{answer_at}
use Rattle.protocol.specs.Running as machine
use Rattle.protocol.specs.Fit.{used, named, fit}
use Rattle.protocol.specs.Checks.{Call, release, resume, lock, unlock, suspend, complete}
use Rattle.protocol.specs.Acting.{has, without}
use Rattle.protocol.specs.Step.{step}
use Rattle.protocol.specs.Trace.{released, ended, after, Has}
use Rattle.protocol.proofs.Listed.{in_turn, never, has_still}
use Rattle.protocol.proofs.Former.{above_system}
use Rattle.scheduler.specs.View.{table_of}
use Rattle.scheduler.specs.Fresh.{times_of, fresh_of}
use Rattle.cases.specs.Tables.{task, usage, end}
use Rattle.timing.specs.Statement.{Clock, At, calls_by, Seen, seen_under, executes, count, Obeys, Prompt, DoneInTime, InTime}
use Rattle.timing.proofs.Finite.{clock_of, lasts, since, ends_promptly, Passes, keeps, not_over}
use Rattle.timing.proofs.Finite as finite

-- Task 3, with the setting 1, runs for 1 and sleeps once, through 3. Tasks 2 and 1 run for 1 and 2, and have a section of 1 of the resource 1 each.
-- The deadline of task 2 is 4.
abbrev pub bytes : List ℕ
bytes = task 3 1 1 1 3 10 10 ++ (task 2 0 0 1 0 4 8 ++ (task 1 0 0 2 0 12 12 ++ (usage 2 1 1 ++ (usage 1 1 1 ++ end))))

-- as it is read
abbrev pub shape : Shape
shape = record { tasks = 3; uses_at = 60; uses = 2 }

-- Job 3 comes and sleeps while job 1 is in its section, and job 2 waits for that; but job 1 is not above the setting of job 3.
abbrev pub calls : List Call
calls =
    release 1 ∷ lock 1 0 1 ∷ release 3 ∷ suspend 3 0 ∷ release 2 ∷ resume 3 0 ∷ complete 3 0 ∷ unlock 1 0 1 ∷ complete 2 0 ∷ complete 1 0 ∷ []

-- how many of them are made at each of the instants 0 to 7
abbrev pub counts : List ℕ
counts = 5 ∷ 0 ∷ 0 ∷ 1 ∷ 1 ∷ 1 ∷ 1 ∷ 1 ∷ []

-- when they are made
abbrev pub clock : Clock
clock = clock_of counts

-- what is seen of them under the former rule
abbrev pub saw : Seen
saw = seen_under above_system (table_of (fresh_of bytes shape)) (in_turn calls)

-- The table is accepted, its verdict is yes with the bounds 4, 3 and 8, and the jobs keep to it and are completed at once. Job 2 comes at the instant
-- 0, by the call 4, has a deadline of 4, and is there in the tick 5, before which it didn't execute; so not every job is over within its bound, and
-- not even its work is done.
pub record Late : Type 0 where
  pub accepted : read_table bytes ≡ Ok shape
  pub verdict : (analysed bytes 100000).verdict ≡ true
  pub told : (answer_at (analysed bytes 100000) 0 ≡ Bound 4) × (answer_at (analysed bytes 100000) 1 ≡ Bound 3)
      × (answer_at (analysed bytes 100000) 2 ≡ Bound 8)
  pub obeyed : Obeys bytes shape clock saw
  pub prompt : (i a r : ℕ) → i < 3 → At clock a r → Prompt bytes clock saw i a r
  pub comes : At clock 4 0
  pub deadline : (task_of bytes 1).deadline ≡ 4
  pub there : Has saw.event 2 4 (calls_by clock 5)
  pub late : InTime bytes shape 100000 clock saw → ⊥
  pub work_late : DoneInTime bytes shape 100000 clock saw → ⊥

-- what the checker computes: the answers, the deadline, the tests, what the call 4 brings about and what doesn't follow, how many calls there are, and
-- the work of job 2 before the tick 5
computed : ((read_table bytes ≡ Ok shape) × ((analysed bytes 100000).verdict ≡ true) × (answer_at (analysed bytes 100000) 0 ≡ Bound 4)
    × (answer_at (analysed bytes 100000) 1 ≡ Bound 3) × (answer_at (analysed bytes 100000) 2 ≡ Bound 8) × ((task_of bytes 1).deadline ≡ 4))
    × (Passes bytes shape counts saw × (all (ends_promptly bytes shape counts saw) shape.tasks ≡ true))
    × ((saw.event 4 ≡ released 2) × (never saw.event (ended 2) 4 (calls_by clock 5) ≡ true))
    × ((calls_by clock 0 ≡ 5) × (calls_by clock 5 ≡ 8))
    × ((count (executes clock saw (task_of bytes 1).priority) 0 5 ≡ 0) × ((task_of bytes 1).run ≡ 1))
unfolding step_at read_from end_step task_step use_step task_rule use_rule sum_after place_from word_at sum_to every answer analysis before_last last_from turns turn solve climb bag_to sum_of_largest ceiling extra blocking additions allowed analysed_as after step fit used named machine.running machine.system_priority machine.top machine.ceiling first best all some largest has without times_of lasts since
computed = (
  (refl, refl, refl, refl, refl, refl),
  (record { coming = refl; all_end = refl; all_close = refl; working = refl; sleeping = refl; holding = refl }, refl),
  (refl, refl),
  (refl, refl),
  (refl, refl),
)

-- it is so
pub former_late : Late
former_late =
    let c = computed in
    let comes : At clock 4 0 = record { from = omega (arith, clock.from_none); till = omega (arith, c.3.0) } in
    let there : Has saw.event 2 4 (calls_by clock 5) = has_still saw.event c.2.0 (omega (arith, c.3.1)) c.2.1 in
    record {
      accepted = c.0.0;
      verdict = c.0.1;
      told = (c.0.2, c.0.3, c.0.4);
      obeyed = keeps bytes shape counts saw c.1.0;
      prompt = finite.prompt bytes shape counts saw c.1.0 c.1.1;
      comes = comes;
      deadline = c.0.5;
      there = there;
      late = λ all-in-time. omega (
        arith,
        not_over clock saw 2 4 0 3 5 there (all-in-time 1 4 0 3 (omega arith) c.0.3 c.2.0 comes (finite.prompt bytes shape counts saw c.1.0 c.1.1 1 4 0 (omega arith) comes)),
      );
      work_late = λ all_done. omega (arith, c.4, (all_done 1 4 0 3 5 (omega arith) c.0.3 comes (omega arith) there).0);
    }
