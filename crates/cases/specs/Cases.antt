-- The scope's cases A to L, as one list under one theorem: tables and what is answered of them, bytes that are refused, and call lists with who runs.
use Rattle.std.specs.Prelude.{ℕ, ◌≡◌, refl, Bool, true, false, List, [], ◌∷◌, length, Some}
use Rattle.searches.specs.Searches.{first, best, all, some, largest}
use Rattle.searches.specs.Indexed.{sum_to, every}
use Rattle.table.specs.declared.Shape.{Shape}
use Rattle.table.specs.declared.Why.{Why}
use Rattle.table.specs.declared.Why.TheVariants.{Cut, Kind, Order}
use Rattle.table.specs.Fields.{word_at}
use Rattle.table.specs.Rules.{task_rule, place_from, sum_after, use_rule}
use Rattle.table.specs.Reading.{task_step, use_step, end_step, step_at, read_from}
use Rattle.rounds.specs.Solver.{climb, solve}
use Rattle.rounds.specs.Rounds.{turn, turns, round, begin, last_from, before_last, analysis, answer}
use Rattle.rounds.specs.Allowance.{allowed}
use Rattle.equations.specs.Bag.{bag_to, sum_of_largest}
use Rattle.equations.specs.Equations.{ceiling, extra, blocking, additions}
use Rattle.analysis.specs.declared.TaskAnswer.{TaskAnswer}
use Rattle.analysis.specs.declared.TaskAnswer.TheVariants.{Bound, Conditional, Nothing}
use Rattle.analysis.specs.Analysing.{own_system, analysed_as, analysed}
use Rattle.analysis.specs.Answering.{answer_at}
use Rattle.protocol.specs.State.{fresh}
use Rattle.protocol.specs.Running as machine
use Rattle.protocol.specs.Fit.{used, named, fit}
use Rattle.protocol.specs.Checks.{Call}
use Rattle.protocol.specs.Acting.{has, without}
use Rattle.protocol.specs.Step.{Running, step}
use Rattle.protocol.proofs.Listed.{answers}
use Rattle.protocol.proofs.Cases.{calls_k, answers_k, calls_l, answers_l}
use Rattle.scheduler.specs.View.{table_of}
use Rattle.scheduler.specs.Fresh.{times_of, set_up_by, set_up}
use Rattle.cases.specs.Tables.{A, C, D, E, G, H}

-- A case: a table's answers, verdict and total; a refusal and its place; the values after one round alone; or calls with their answers.
pub data Case : Type 0 where
  analysed_case : List ℕ → List TaskAnswer → Bool → ℕ → Case
  refused : List ℕ → Why → ℕ → Case
  one_round : List ℕ → Shape → List ℕ → Case
  called : List ℕ → List Call → List (ℕ × Running) → Case

-- that it is so
abbrev pub Holds : Case → Type 0
Holds (analysed_case s told verdict total) =
    (every (answer_at (analysed s 100000)) (length told) 0 ≡ told) × ((analysed s 100000).verdict ≡ verdict) × ((analysed s 100000).evaluations ≡ total)
Holds (refused s why place) = (analysed s 100000).refusal ≡ Some (record { why = why; place = place })
Holds (one_round s h values) = (round (own_system s h) (begin (own_system s h))).vector ≡ values
Holds (called s calls told) = answers machine.in_force (table_of (set_up s).scheduler) fresh calls ≡ told

abbrev pub Hold : List Case → Type 0
Hold [] = Unit {0}
Hold (c ∷ cs) = Holds c × Hold cs

-- A to L, with the one round of H and the 13 beside K
abbrev pub cases : List Case
cases =
    analysed_case (A 0) (Bound 9 ∷ Bound 8 ∷ Bound 11 ∷ []) true 12
    ∷ analysed_case (A 1) (Bound 7 ∷ Bound 8 ∷ Bound 14 ∷ []) true 12
    ∷ analysed_case C (Bound 5 ∷ []) true 1
    ∷ analysed_case D (Nothing ∷ []) false 0
    ∷ analysed_case (E 8) (Conditional 3 ∷ Nothing ∷ []) false 6
    ∷ analysed_case (E 9) (Bound 3 ∷ Bound 9 ∷ []) true 8
    ∷ analysed_case G (Bound 10 ∷ Bound 10 ∷ Bound 12 ∷ []) true 12
    ∷ analysed_case H (Bound 6 ∷ Bound 5 ∷ []) true 12
    ∷ one_round H (record { tasks = 2; uses_at = 40; uses = 2 }) (9 ∷ 5 ∷ [])
    ∷ refused [] Cut 0
    ∷ refused (3 ∷ []) Order 0
    ∷ refused (4 ∷ []) Kind 0
    ∷ called (A 0) calls_k answers_k
    ∷ called (A 1) calls_l answers_l
    ∷ []

-- the checker computes them
pub computed : Hold cases
unfolding step_at read_from end_step task_step use_step task_rule use_rule sum_after place_from word_at sum_to every answer analysis before_last last_from turns turn solve climb bag_to sum_of_largest ceiling extra blocking additions allowed analysed_as answers step fit used named machine.running machine.system_priority machine.top machine.ceiling first best all some largest has without times_of set_up_by
computed = (
  (refl, refl, refl),
  (
    (refl, refl, refl),
    (
      (refl, refl, refl),
      (
        (refl, refl, refl),
        (
          (refl, refl, refl),
          (
            (refl, refl, refl),
            (
              (refl, refl, refl),
              ((refl, refl, refl), (refl, (refl, (refl, (refl, (refl, (refl, tt))))))),
            ),
          ),
        ),
      ),
    ),
  ),
)
