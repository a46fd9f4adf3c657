-- The statement is not empty, and these bounds could not be smaller: two jobs that keep to their table are there until their bounds.
use Prim.Native.Nat.{ℕ, ◌≤◌, ◌<◌}
use mathlib.Core.Path.{◌≡◌, refl, sym, subst}
use mathlib.Core.Bool.{true}
use mathlib.Core.List.{List, [], ◌∷◌, ◌++◌}
use native.Mathlib.Omega.{arith}
use Rattle.searches.specs.Searches.{first, best, all, some, largest}
use Rattle.searches.specs.Indexed.{sum_to, every}
use Rattle.table.specs.declared.Shape.{Shape}
use Rattle.std.specs.Prelude.{Ok}
use Rattle.table.specs.Fields.{word_at}
use Rattle.table.specs.Rules.{task_rule, place_from, sum_after, use_rule}
use Rattle.table.specs.Reading.{task_step, use_step, end_step, step_at, read_from, read_table}
use Rattle.rounds.specs.Solver.{climb, solve}
use Rattle.rounds.specs.Rounds.{turn, turns, last_from, before_last, analysis, answer}
use Rattle.rounds.specs.Allowance.{allowed}
use Rattle.equations.specs.Bag.{bag_to, sum_of_largest}
use Rattle.equations.specs.Equations.{ceiling, extra, blocking, additions}
use Rattle.analysis.specs.declared.TaskAnswer.TheVariants.{Bound}
use Rattle.analysis.specs.Analysing.{analysed_as, analysed}
use Rattle.analysis.specs.Answering.{answer_at}
use Rattle.protocol.specs.Running as machine
use Rattle.protocol.specs.Fit.{used, named, fit}
use Rattle.protocol.specs.Checks.{Call, release, resume, lock, unlock, suspend, complete}
use Rattle.protocol.specs.Acting.{has, without}
use Rattle.protocol.specs.Step.{step}
use Rattle.protocol.specs.Trace.{released, ended, after, Has}
use Rattle.protocol.proofs.Listed.{in_turn, never, has_still}
use Rattle.scheduler.specs.View.{table_of}
use Rattle.scheduler.specs.Replies.{replied}
use Rattle.scheduler.specs.Fresh.{times_of, fresh_of}
use Rattle.scheduler.proofs.Theorems.{driven, drives}
use Rattle.cases.specs.Tables.{task, usage, end}
use Rattle.timing.specs.Statement.{Clock, At, calls_by, Seen, seen, seen_under, Obeys, Prompt, OverWithin}
use Rattle.timing.proofs.Theorems.{seen_is}
use Rattle.timing.proofs.Finite.{clock_of, lasts, since, ends_promptly, Passes, keeps, not_over}
use Rattle.timing.proofs.Finite as finite

-- Task 2 runs for 2 and sleeps once, through 1; task 1 runs for 4. Of the resource 1 they have sections of 1, task 2 one and task 1 two.
abbrev pub bytes : List ℕ
bytes = task 2 0 1 2 1 20 20 ++ (task 1 0 0 4 0 20 20 ++ (usage 2 1 1 ++ (usage 1 2 1 ++ end)))

-- as it is read
abbrev pub shape : Shape
shape = record { tasks = 2; uses_at = 40; uses = 2 }

-- Job 2 finds job 1 in a section when it comes, and again when it wakes.
abbrev pub calls : List Call
calls =
    release 1 ∷ lock 1 0 1 ∷ release 2 ∷ unlock 1 0 1 ∷ suspend 2 0 ∷ lock 1 0 1 ∷ resume 2 0 ∷ unlock 1 0 1 ∷ complete 2 0 ∷ complete 1 0 ∷ []

-- how many of them are made at each of the instants 0 to 6
abbrev pub counts : List ℕ
counts = 3 ∷ 1 ∷ 1 ∷ 2 ∷ 1 ∷ 1 ∷ 1 ∷ []

-- when they are made
abbrev pub clock : Clock
clock = clock_of counts

-- what is seen of them under the rule in force
abbrev pub saw : Seen
saw = seen_under machine.in_force (table_of (fresh_of bytes shape)) (in_turn calls)

-- The table is accepted, its tasks are told 5 and 6, and the jobs, as they are seen, keep to it and are completed at once. Both come at the instant 0,
-- job 2 by the call 2 and job 1 by the call 0; job 2 is there in the tick 4, and job 1 in the tick 5. So neither is over within less than its bound.
pub record Reached (X : Seen) : Type 0 where
  pub accepted : read_table bytes ≡ Ok shape
  pub told : (answer_at (analysed bytes 100000) 0 ≡ Bound 5) × (answer_at (analysed bytes 100000) 1 ≡ Bound 6)
  pub obeyed : Obeys bytes shape clock X
  pub prompt : (i a r : ℕ) → i < 2 → At clock a r → Prompt bytes clock X i a r
  pub come : At clock 2 0 × At clock 0 0
  pub there : Has X.event 2 2 (calls_by clock 4) × Has X.event 1 0 (calls_by clock 5)
  pub no_sooner : (v : ℕ) → (OverWithin clock X 2 2 0 v → 5 ≤ v) × (OverWithin clock X 1 0 0 v → 6 ≤ v)

-- what the checker computes: the answers, the tests, what the calls 2 and 0 bring about and what doesn't follow, how many calls there are by then
computed : ((read_table bytes ≡ Ok shape) × (answer_at (analysed bytes 100000) 0 ≡ Bound 5) × (answer_at (analysed bytes 100000) 1 ≡ Bound 6))
    × (Passes bytes shape counts saw × (all (ends_promptly bytes shape counts saw) shape.tasks ≡ true))
    × (((saw.event 2 ≡ released 2) × (never saw.event (ended 2) 2 (calls_by clock 4) ≡ true))
    × ((saw.event 0 ≡ released 1) × (never saw.event (ended 1) 0 (calls_by clock 5) ≡ true)))
    × ((calls_by clock 0 ≡ 3) × (calls_by clock 4 ≡ 8) × (calls_by clock 5 ≡ 9))
unfolding step_at read_from end_step task_step use_step task_rule use_rule sum_after place_from word_at sum_to every answer analysis before_last last_from turns turn solve climb bag_to sum_of_largest ceiling extra blocking additions allowed analysed_as after step fit used named machine.running machine.system_priority machine.top machine.ceiling first best all some largest has without times_of lasts since
computed = (
  (refl, refl, refl),
  (record { coming = refl; all_end = refl; all_close = refl; working = refl; sleeping = refl; holding = refl }, refl),
  ((refl, refl), (refl, refl)),
  (refl, refl, refl),
)

-- it is so of the machine
reached : Reached saw
reached =
    let c = computed in
    let come : (a : ℕ) → a < 3 → At clock a 0 = λ a lt. record { from = omega (arith, clock.from_none); till = omega (arith, lt, c.3.0) } in
    let two = has_still saw.event c.2.0.0 (omega (arith, c.3.1)) c.2.0.1 in
    let one = has_still saw.event c.2.1.0 (omega (arith, c.3.2)) c.2.1.1 in
    record {
      accepted = c.0.0;
      told = (c.0.1, c.0.2);
      obeyed = keeps bytes shape counts saw c.1.0;
      prompt = finite.prompt bytes shape counts saw c.1.0 c.1.1;
      come = (come 2 (omega arith), come 0 (omega arith));
      there = (two, one);
      no_sooner = λ v.
          (λ o. omega (arith, not_over clock saw 2 2 0 v 4 two o), λ o. omega (arith, not_over clock saw 1 0 0 v 5 one o));
    }

-- and of the scheduler's own calls
pub calls_reached : Reached (seen (in_turn calls) (driven bytes (in_turn calls)) (λ k. replied (driven bytes (in_turn calls) k) (in_turn calls k)))
calls_reached = subst Reached (sym (seen_is (drives bytes shape reached.accepted (in_turn calls)))) reached
