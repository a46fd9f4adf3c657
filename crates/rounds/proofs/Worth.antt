-- What a task is worth under a vector: the value of the solver's answer. In a lawful system it is right, and rises with the vector.
use Rattle.std.specs.Prelude.{◌≡◌, List, ℕ, ◌≤◌, ◌<◌, length}
use Rattle.std.proofs.Common.{ap, ◌∙◌, le_refl}
use Rattle.rounds.specs.Answer.{Right, Strong, value}
use Rattle.rounds.proofs.AnswerLaws.{right_unique, strong_right, value_mono, value_within, value_floor}
use Rattle.rounds.specs.Rounds.{reply}
use Rattle.rounds.proofs.SolverRight.{solve_strong}
use Rattle.rounds.specs.System.{System, size, deadline, Lawful, Agrees}
use Rattle.rounds.specs.Vector.{at, ◌⊑◌}
use Rattle.rounds.proofs.VectorLaws.{⊑_refl}
use Rattle.rounds.specs.Worth.{worth}

module _ (S : System) (L : Lawful S) where
  -- The solver's answer for a task is strong under any vector.
  pub reply_strong : (i : ℕ) → i < size S → (v : List ℕ) (e : ℕ) → Strong (S.side i v) (deadline S i) (reply S i v e).answer
  reply_strong i p v e =
      solve_strong (S.side i v) (deadline S i) (S.start i) (λ t u. L.rises i p v v t u (⊑_refl v)) (L.positive i p) (L.above i p v) e

  -- So it is right.
  pub reply_right : (i : ℕ) → i < size S → (v : List ℕ) (e : ℕ) → Right (S.side i v) (deadline S i) (reply S i v e).answer
  reply_right i p v e = strong_right (S.side i v) (deadline S i) (reply S i v e).answer (reply_strong i p v e)

  -- The answer doesn't depend on the count.
  pub reply_any : (i : ℕ) → i < size S → (v : List ℕ) (e f : ℕ) → (reply S i v e).answer ≡ (reply S i v f).answer
  reply_any i p v e f =
      right_unique (S.side i v) (deadline S i) (reply S i v e).answer (reply S i v f).answer (reply_right i p v e) (reply_right i p v f)

  -- A task is worth no more under a lower vector.
  pub worth_mono : (i : ℕ) → i < size S → (v w : List ℕ) → v ⊑ w → worth S i v ≤ worth S i w
  worth_mono i p v w h =
      value_mono (S.side i v) (S.side i w) (deadline S i) (reply S i v 0).answer (reply S i w 0).answer
      (λ t. L.rises i p v w t t h (le_refl t)) (reply_strong i p v 0) (reply_right i p w 0)

  -- A task is worth no more than its deadline.
  pub worth_within : (i : ℕ) → i < size S → (v : List ℕ) → worth S i v ≤ deadline S i
  worth_within i p v = value_within (S.side i v) (deadline S i) (reply S i v 0).answer (reply_right i p v 0)

  -- A task is worth at least what both its right side and its deadline reach.
  pub worth_floor : (i : ℕ) → i < size S → (v : List ℕ) (c : ℕ) → ((t : ℕ) → c ≤ S.side i v t) → c ≤ deadline S i → c ≤ worth S i v
  worth_floor i p v c above h =
      value_floor (S.side i v) (deadline S i) c (reply S i v 0).answer above h (reply_right i p v 0)

  -- To agree is to hold each task's worth.
  pub agrees_worth : (v : List ℕ) → Agrees S v → (i : ℕ) → i < size S → at v i ≡ worth S i v
  agrees_worth v h i p =
      let a = h.each i p in
      a.2 ∙ ap (value (deadline S i)) (right_unique (S.side i v) (deadline S i) a.0 (reply S i v 0).answer a.1 (reply_right i p v 0))

  -- To hold each task's worth is to agree.
  pub worth_agrees : (v : List ℕ) → length v ≡ size S → ((i : ℕ) → i < size S → at v i ≡ worth S i v) → Agrees S v
  worth_agrees v l h = record { sized = l; each = λ i p. ((reply S i v 0).answer, reply_right i p v 0, h i p) }
