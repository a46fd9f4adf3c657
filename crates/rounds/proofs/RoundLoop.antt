-- A round as a loop over its turns, with a flag that tells whether a value changed: each turn leads on, and the last gives the round.
use Rattle.std.specs.Prelude.{◌≡◌, refl, Bool, false, ◌||◌, ℕ, suc, ◌+◌, ◌≤◌, ◌<◌, length}
use Rattle.std.proofs.Common.{ap, ◌∙◌, add-one, arith}
use Rattle.rounds.proofs.LoweredLaws.{lowers_flag}
use Rattle.rounds.specs.OnWay.{OnWay}
use Rattle.rounds.proofs.RoundLaws.{turns_below, turns_grow, turns_length, unchanged}
use Rattle.rounds.proofs.RoundSweep.{turn_on_way}
use Rattle.rounds.specs.Rounds.{Progress, reply, lowers, lowered, turn, turns, round, answer_in}
use Rattle.rounds.specs.Solver.{Reply}
use Rattle.rounds.specs.System.{System, size, Lawful}
use Rattle.rounds.specs.Vector.{◌⊑◌}
use Rattle.rounds.specs.RoundLoop.{Turned}

-- The loop begins so before the first turn.
pub turned_start : (S : System) (s : Progress) (allowance : ℕ) → s.evaluations ≤ allowance → OnWay S s.vector → Turned S s allowance 0 s false
unfolding turns
turned_start S s allowance h w =
    record { place = omega arith; reached = refl; counted = h; told = rw (unchanged s s refl); way = w }

module _ (S : System) (s : Progress) (allowance i : ℕ) (now : Progress) (flag : Bool) (c : Turned S s allowance i now flag) where
  -- No value has risen.
  pub turned_below : now.vector ⊑ s.vector
  unfolding turns
  turned_below = rw c.reached (turns_below S 0 i s (omega arith))

  -- The number of values is the same.
  pub turned_length : length now.vector ≡ length s.vector
  turned_length = rw c.reached (turns_length S i s)

  -- Where the next turn passes the allowance, the round does.
  pub turned_over : i < size S → allowance < (reply S i now.vector now.evaluations).evaluations → allowance < (round S s).evaluations
  unfolding turns turn
  turned_over p l = omega (arith, rw c.reached at l, turns_grow S (suc i) (size S) s p)

  -- A turn within the allowance leads on.
  pub turned_next : Lawful S → i < size S → (r : Reply) → r ≡ reply S i now.vector now.evaluations → r.evaluations ≤ allowance
      → Turned S s allowance (i + 1) (record { vector = lowered now.vector i r.answer; evaluations = r.evaluations }) (lowers now.vector i r.answer || flag)
  unfolding turns turn
  turned_next L p r q l =
      record {
        place = omega arith;
        reached = rw (add-one i, q) (ap (turn S i) c.reached);
        counted = l;
        told = lowers_flag s.vector now.vector i r.answer flag turned_below c.told;
        way = rw q (turn_on_way S L i p now c.way);
      }

  -- The reply at this turn has the answer that the round gives to the task.
  pub turned_answer : (r : Reply) → r ≡ reply S i now.vector now.evaluations → answer_in S s i ≡ r.answer
  turned_answer r q = rw (q, c.reached)

  -- After the last turn the round is done.
  pub turned_end : size S ≤ i → now ≡ round S s
  turned_end l = let e : i ≡ size S = omega (arith, c.place) in c.reached ∙ ap (λ k. turns S k s) e
