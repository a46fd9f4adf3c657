-- The rounds as the scope words them: from the deadlines on, task by task in the order of the table, until a round changes no value.
use Rattle.std.specs.Prelude.{Bool, false, cond, not, List, ℕ, zero, suc, ltb, set}
use Rattle.rounds.specs.Answer.{Answer, bound, none}
use Rattle.rounds.specs.Solver.{Reply, solve}
use Rattle.rounds.specs.System.{System, size, deadline}
use Rattle.rounds.specs.Vector.{at, sum, same}

-- How far the analysis has come: the vector, and the number of right sides evaluated so far.
pub record Progress : Type 0 where
  pub vector : List ℕ
  pub evaluations : ℕ

-- What the solver replies for the task i under the vector v, with e evaluations made.
abbrev pub reply : System → ℕ → List ℕ → ℕ → Reply
reply S i v e = solve (S.side i v) (deadline S i) (S.start i) e

-- Whether an answer is a smaller bound than the value of the task i.
abbrev pub lowers : List ℕ → ℕ → Answer → Bool
lowers v i (bound t) = ltb t (at v i)
lowers v i none = false

-- A smaller bound replaces the value.
abbrev pub lowered : List ℕ → ℕ → Answer → List ℕ
lowered v i (bound t) = cond (lowers v i (bound t)) (set v i t) v
lowered v i none = v

-- The turn of the task i: it is solved under the vector as it stands, and a smaller bound replaces its value at once.
unfoldable pub turn : System → ℕ → Progress → Progress
turn S i s =
    let r = reply S i s.vector s.evaluations in
    record { vector = lowered s.vector i r.answer; evaluations = r.evaluations }

-- The first k turns of a round.
unfoldable pub turns : System → ℕ → Progress → Progress
turns S zero s = s
turns S (suc k) s = turn S k (turns S k s)

-- A round: a turn for each task.
abbrev pub round : System → Progress → Progress
round S s = turns S (size S) s

-- The answer that the task i gets in a round from s.
abbrev pub answer_in : System → Progress → ℕ → Answer
answer_in S s i =
    let now = turns S i s in
    (reply S i now.vector now.evaluations).answer

-- Whether a value changed from s to now.
abbrev pub changed : Progress → Progress → Bool
changed s now = not (same s.vector now.vector)

-- Rounds R from s on: where the last one begins, the first that changes no value. The number is fuel.
unfoldable pub last_from : (Progress → Progress) → ℕ → Progress → Progress
last_from R zero s = s
last_from R (suc k) s =
    let now = R s in
    let later = last_from R k now in
    cond (changed s now) later s

-- The same with enough fuel: a round that changes a value lowers the sum.
abbrev pub last : (Progress → Progress) → Progress → Progress
last R s = last_from R (suc (sum s.vector)) s

-- The rounds begin at the deadlines, with nothing evaluated.
abbrev pub begin : System → Progress
begin S = record { vector = S.deadlines; evaluations = 0 }

-- Where the last round begins.
unfoldable pub before_last : System → Progress
before_last S = last (round S) (begin S)

-- The analysis: the vector after the last round, and the evaluations over all rounds.
unfoldable pub analysis : System → Progress
analysis S = round S (before_last S)

-- The answer of the analysis for the task i: that of the last round.
unfoldable pub answer : System → ℕ → Answer
answer S i = answer_in S (before_last S) i
