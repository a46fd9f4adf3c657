-- What a task is answered: a value is told as a bound only where every task has one.
use Rattle.std.specs.Prelude.{ℕ, Bool, true, false, cond, ltb, get_or}
use Rattle.rounds.specs.Answer as theory
use Rattle.analysis.specs.declared.Analysis.{Analysis}
use Rattle.analysis.specs.declared.TaskAnswer.{TaskAnswer}
use Rattle.analysis.specs.declared.TaskAnswer.TheVariants.{Bound, Conditional, Nothing}

-- by the verdict, by whether the task has a bound, and by its value
abbrev pub told : Bool → Bool → ℕ → TaskAnswer
told true true value = Bound value
told false true value = Conditional value
told verdict false value = Nothing

-- the task at a place; none where there is no task
abbrev pub answer_at : Analysis → ℕ → TaskAnswer
answer_at a i = cond (ltb i 32) (told a.verdict (get_or a.bounds i false) (get_or a.values i 0)) Nothing

-- an answer of the rounds, as the verdict lets it be told
abbrev pub told_of : Bool → theory.Answer → TaskAnswer
told_of true (theory.bound t) = Bound t
told_of false (theory.bound t) = Conditional t
told_of verdict theory.none = Nothing
