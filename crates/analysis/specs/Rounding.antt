-- What a round is handed and what it leaves. For private functions: no promise to a caller.
use Rattle.std.specs.Prelude.{ℕ, ◌≤◌, ◌<◌, ◌≡◌, Bool, true, false, List, get_or, Option, Result, Ok, Err}
use Rattle.table.specs.WellFormed.{task_of}
use Rattle.rounds.specs.Answer as theory
use Rattle.rounds.specs.System.{System, size}
use Rattle.rounds.specs.Rounds.{Progress, round, changed, lowered, lowers, answer_in, analysis, answer}
use Rattle.analysis.specs.declared.Spent.{Spent}
use Rattle.analysis.specs.declared.turns.Round.{Round}
use Rattle.analysis.specs.declared.turns.Round.TheVariants.{Changed, Still}
use Rattle.analysis.specs.Solving.{answer_of}

-- whether the definition's answer is a bound
abbrev pub bounded : theory.Answer → Bool
bounded (theory.bound t) = true
bounded theory.none = false

-- the deadline of the task at place i
abbrev pub deadline_of : List ℕ → ℕ → ℕ
deadline_of s i = (task_of s i).deadline

-- the progress that a vector and a count are
abbrev pub progress : List ℕ → ℕ → Progress
progress v e = record { vector = v; evaluations = e }

-- what an answer for the task i leaves of the vector, and whether it replaced the value
pub record Lowers (v : List ℕ) (i : ℕ) (a : Option ℕ) (w : List ℕ) (r : Bool) : Type 0 where
  pub vector : w ≡ lowered v i (answer_of a)
  pub raised : r ≡ lowers v i (answer_of a)

-- marks for n tasks: none past them
abbrev pub Marks : ℕ → List Bool → Type 0
Marks n bounds = (j : ℕ) → n ≤ j → get_or bounds j false ≡ false

-- what a round within the allowance leaves: the definition's vector and count, whether it changed, and which tasks have a bound
pub record Left (allowance : ℕ) (S : System) (s : Progress) (w : List ℕ) (bounds : List Bool) (e : ℕ) (flag : Bool) : Type 0 where
  pub done : progress w e ≡ round S s
  pub counted : e ≤ allowance
  pub told : flag ≡ changed s (round S s)
  pub bounds_are : (i : ℕ) → i < size S → get_or bounds i false ≡ bounded (answer_in S s i)

-- what a round answers: that it left this, or that its count passes the allowance
abbrev pub RoundSays : ℕ → System → Progress → List ℕ → List Bool → Result Round Spent → Type 0
RoundSays allowance S s w bounds (Ok (Changed e)) = Left allowance S s w bounds e true
RoundSays allowance S s w bounds (Ok (Still e)) = Left allowance S s w bounds e false
RoundSays allowance S s w bounds (Err spent) = allowance < (round S s).evaluations

pub record Rounded (n allowance : ℕ) (S : System) (s : Progress) (w : List ℕ) (bounds : List Bool) (r : Result Round Spent) : Type 0 where
  pub marks : Marks n bounds
  pub says : RoundSays allowance S s w bounds r

-- what the rounds leave within the allowance: the analysis' vector and total, and which tasks have a bound
pub record Final (allowance : ℕ) (S : System) (w : List ℕ) (bounds : List Bool) (e : ℕ) : Type 0 where
  pub done : progress w e ≡ analysis S
  pub counted : e ≤ allowance
  pub bounds_are : (i : ℕ) → i < size S → get_or bounds i false ≡ bounded (answer S i)

-- what the rounds answer: that they left this, or that the analysis' total passes the allowance
abbrev pub RoundsSay : ℕ → System → List ℕ → List Bool → Result ℕ Spent → Type 0
RoundsSay allowance S w bounds (Ok e) = Final allowance S w bounds e
RoundsSay allowance S w bounds (Err spent) = allowance < (analysis S).evaluations

pub record Settled (n allowance : ℕ) (S : System) (w : List ℕ) (bounds : List Bool) (r : Result ℕ Spent) : Type 0 where
  pub marks : Marks n bounds
  pub says : RoundsSay allowance S w bounds r
