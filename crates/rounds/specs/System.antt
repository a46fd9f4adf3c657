-- A system of equations, one per task, over a vector of values; the vectors that agree with it; and the final one.
use Rattle.std.specs.Prelude.{◌≡◌, List, ℕ, ◌≤◌, ◌<◌, length}
use Rattle.rounds.specs.Answer.{Answer, Right, value}
use Rattle.rounds.specs.Vector.{at, ◌⊑◌}

-- The deadlines, one per task; where each task's t starts; and its right side under a vector at t.
pub record System : Type 0 where
  pub deadlines : List ℕ
  pub start : ℕ → ℕ
  pub side : ℕ → List ℕ → ℕ → ℕ

-- The number of tasks.
abbrev pub size : System → ℕ
size S = length S.deadlines

-- The deadline of the task i.
abbrev pub deadline : System → ℕ → ℕ
deadline S i = at S.deadlines i

-- A lawful system: each start is at least 1, no right side is below it, and each right side rises with t and with the vector.
pub record Lawful (S : System) : Type 0 where
  pub positive : (i : ℕ) → i < size S → 1 ≤ S.start i
  pub above : (i : ℕ) → i < size S → (v : List ℕ) (t : ℕ) → S.start i ≤ S.side i v t
  pub rises : (i : ℕ) → i < size S → (v w : List ℕ) (t u : ℕ) → v ⊑ w → t ≤ u → S.side i v t ≤ S.side i w u

-- A vector agrees where each value is its task's bound under that vector, or the deadline where there is none.
pub record Agrees (S : System) (v : List ℕ) : Type 0 where
  pub sized : length v ≡ size S
  pub each : (i : ℕ) → i < size S → (a : Answer) × Right (S.side i v) (deadline S i) a × (at v i ≡ value (deadline S i) a)

-- The final vector: the largest that agrees. That no agreeing value is above its deadline is `agrees_within` of SystemLaws.
pub record Final (S : System) (v : List ℕ) : Type 0 where
  pub agrees : Agrees S v
  pub largest : (w : List ℕ) → Agrees S w → w ⊑ v
