-- Why a job must be completed promptly to be over within its bound: here one ends with a sleep, and a higher job comes beside its resume.
use Prim.Native.Nat.{ℕ}
use mathlib.Core.Path.{◌≡◌, refl}
use mathlib.Core.Bool.{true}
use mathlib.Core.List.{List, [], ◌∷◌, ◌++◌}
use native.Mathlib.Omega.{arith}
use Rattle.searches.specs.Searches.{first, best, all, some, largest}
use Rattle.searches.specs.Indexed.{sum_to, every}
use Rattle.table.specs.declared.Shape.{Shape}
use Rattle.std.specs.Prelude.{Ok}
use Rattle.table.specs.Fields.{word_at}
use Rattle.table.specs.Rules.{task_rule, place_from, sum_after, use_rule}
use Rattle.table.specs.Reading.{task_step, use_step, end_step, step_at, read_from, read_table}
use Rattle.rounds.specs.Solver.{climb, solve}
use Rattle.rounds.specs.Rounds.{turn, turns, last_from, before_last, analysis, answer}
use Rattle.rounds.specs.Allowance.{allowed}
use Rattle.equations.specs.Bag.{bag_to, sum_of_largest}
use Rattle.equations.specs.Equations.{ceiling, extra, blocking, additions}
use Rattle.analysis.specs.declared.TaskAnswer.TheVariants.{Bound}
use Rattle.analysis.specs.Analysing.{analysed_as, analysed}
use Rattle.analysis.specs.Answering.{answer_at}
use Rattle.protocol.specs.Running as machine
use Rattle.protocol.specs.Fit.{used, named, fit}
use Rattle.protocol.specs.Checks.{Call, release, resume, suspend, complete}
use Rattle.protocol.specs.Acting.{has, without}
use Rattle.protocol.specs.Step.{step}
use Rattle.protocol.specs.Trace.{released, ended, after, Has}
use Rattle.protocol.proofs.Listed.{in_turn, never, has_still}
use Rattle.scheduler.specs.View.{table_of}
use Rattle.scheduler.specs.Fresh.{times_of, fresh_of}
use Rattle.cases.specs.Tables.{task, end}
use Rattle.timing.specs.Statement.{Clock, At, calls_by, Seen, seen_under, Obeys, OverWithin}
use Rattle.timing.proofs.Finite.{clock_of, lasts, since, Passes, keeps, not_over}

-- Task 2 runs for 1; task 1 runs for 1 and sleeps once, through 1. Both have the deadline and the period 3.
abbrev pub bytes : List ℕ
bytes = task 2 0 0 1 0 3 3 ++ (task 1 0 1 1 1 3 3 ++ end)

-- as it is read
abbrev pub shape : Shape
shape = record { tasks = 2; uses_at = 40; uses = 0 }

-- Job 1 executes in the tick 1 and sleeps through the tick 2. At the instant 3 task 2 is released again, before job 1 is resumed.
abbrev pub calls : List Call
calls = release 2 ∷ release 1 ∷ complete 2 0 ∷ suspend 1 0 ∷ release 2 ∷ resume 1 0 ∷ complete 2 1 ∷ complete 1 0 ∷ []

-- how many of them are made at each of the instants 0 to 4
abbrev pub counts : List ℕ
counts = 2 ∷ 1 ∷ 1 ∷ 2 ∷ 2 ∷ []

-- when they are made
abbrev pub clock : Clock
clock = clock_of counts

-- what is seen of them under the rule in force
abbrev pub saw : Seen
saw = seen_under machine.in_force (table_of (fresh_of bytes shape)) (in_turn calls)

-- The table is accepted, its verdict is yes with the bounds 1 and 3, and the jobs keep to it. Job 1 comes at the instant 0, by the call 1, and is there
-- in the tick 3; so it isn't over within its bound.
pub record Unprompt : Type 0 where
  pub accepted : read_table bytes ≡ Ok shape
  pub told : (answer_at (analysed bytes 100000) 0 ≡ Bound 1) × (answer_at (analysed bytes 100000) 1 ≡ Bound 3)
  pub obeyed : Obeys bytes shape clock saw
  pub comes : At clock 1 0
  pub there : Has saw.event 1 1 (calls_by clock 3)
  pub not_over_then : OverWithin clock saw 1 1 0 3 → ⊥

-- what the checker computes: the answers, the tests, what the call 1 brings about and what doesn't follow, how many calls there are
computed : ((read_table bytes ≡ Ok shape) × (answer_at (analysed bytes 100000) 0 ≡ Bound 1) × (answer_at (analysed bytes 100000) 1 ≡ Bound 3))
    × Passes bytes shape counts saw
    × ((saw.event 1 ≡ released 1) × (never saw.event (ended 1) 1 (calls_by clock 3) ≡ true))
    × ((calls_by clock 0 ≡ 2) × (calls_by clock 3 ≡ 6))
unfolding step_at read_from end_step task_step use_step task_rule use_rule sum_after place_from word_at sum_to every answer analysis before_last last_from turns turn solve climb bag_to sum_of_largest ceiling extra blocking additions allowed analysed_as after step fit used named machine.running machine.system_priority machine.top machine.ceiling first best all some largest has without times_of lasts since
computed = (
  (refl, refl, refl),
  record { coming = refl; all_end = refl; all_close = refl; working = refl; sleeping = refl; holding = refl },
  (refl, refl),
  (refl, refl),
)

-- it is so
pub unprompt : Unprompt
unprompt =
    let c = computed in
    let there : Has saw.event 1 1 (calls_by clock 3) = has_still saw.event c.2.0 (omega (arith, c.3.1)) c.2.1 in
    record {
      accepted = c.0.0;
      told = (c.0.1, c.0.2);
      obeyed = keeps bytes shape counts saw c.1;
      comes = record { from = omega (arith, clock.from_none); till = omega (arith, c.3.0) };
      there = there;
      not_over_then = λ over. omega (arith, not_over clock saw 1 1 0 3 3 there over);
    }
