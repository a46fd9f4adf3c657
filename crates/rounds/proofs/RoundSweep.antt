-- A round of turns is a sweep: in a lawful system each turn stays on the way, and one that changes nothing finds its value supported.
use Rattle.std.specs.Prelude.{◌≡◌, refl, Bool, true, false, cond, List, ℕ, suc, ◌≤◌, ◌<◌, set}
use Rattle.std.proofs.Math.Path.{sym}
use Rattle.std.proofs.Common.{ap, ◌∙◌, le_refl, le_of_eq, arith, length-set, get_or-set_same, ltb-true, ltb-false}
use Rattle.rounds.specs.Answer.{Answer, bound, none, value}
use Rattle.rounds.specs.OnWay.{OnWay}
use Rattle.rounds.proofs.OnWay.{on_way_step}
use Rattle.rounds.proofs.RoundLaws.{turns_keep, turns_below, turns_held}
use Rattle.rounds.specs.Rounds.{Progress, reply, lowers, lowered, turn, turns, round}
use Rattle.rounds.specs.Sweep.{Sweeps}
use Rattle.rounds.specs.System.{System, size, deadline, Lawful}
use Rattle.rounds.specs.Vector.{at}
use Rattle.rounds.proofs.VectorLaws.{at_set, set_below}
use Rattle.rounds.specs.Worth.{worth}
use Rattle.rounds.proofs.Worth.{reply_any}

module _ (S : System) (L : Lawful S) where
  -- ---- one turn

  -- Where a value takes its task's worth, the vector stays on the way.
  lowered_on_way : (v : List ℕ) (i : ℕ) → i < size S → (a : Answer) → worth S i v ≡ value (deadline S i) a → OnWay S v → OnWay S (lowered v i a)
  lowered_on_way v i p none e h = h
  lowered_on_way v i p (bound t) e h = go (lowers v i (bound t)) refl
    where
      go : (b : Bool) → lowers v i (bound t) ≡ b → OnWay S (cond b (set v i t) v)
      go true f =
          on_way_step S L v (set v i t) h (length-set v i t ∙ h.sized) (set_below v i t (omega (arith, ltb-true)))
          (λ j q. at_set (λ k y. k < size S → worth S k v ≤ y) v i t j (h.holds j) (λ r. le_of_eq e) q)
      go false f = h

  -- Where that changes nothing, the value is supported.
  lowered_still : (v : List ℕ) (i : ℕ) → i < size S → (a : Answer) → worth S i v ≡ value (deadline S i) a → OnWay S v → lowered v i a ≡ v → at v i ≤ worth S i v
  lowered_still v i p none e h q = omega (arith, h.within i)
  lowered_still v i p (bound t) e h q = go (lowers v i (bound t)) refl q
    where
      go : (b : Bool) → lowers v i (bound t) ≡ b → cond b (set v i t) v ≡ v → at v i ≤ worth S i v
      go true f r = omega (arith, get_or-set_same v i t 0 (omega (arith, h.sized)), ap (λ w. at w i) r)
      go false f r = omega (arith, ltb-false)

  -- The worth is the value of the reply, whatever the count.
  worth_reply : (i : ℕ) → i < size S → (v : List ℕ) (e : ℕ) → worth S i v ≡ value (deadline S i) (reply S i v e).answer
  worth_reply i p v e = ap (value (deadline S i)) (reply_any S L i p v 0 e)

  -- A turn stays on the way.
  pub turn_on_way : (i : ℕ) → i < size S → (s : Progress) → OnWay S s.vector → OnWay S (turn S i s).vector
  unfolding turn
  turn_on_way i p s h =
      lowered_on_way s.vector i p (reply S i s.vector s.evaluations).answer (worth_reply i p s.vector s.evaluations) h

  -- A turn that changes nothing finds the value of its task supported.
  pub turn_still : (i : ℕ) → i < size S → (s : Progress) → OnWay S s.vector → (turn S i s).vector ≡ s.vector → at s.vector i ≤ worth S i s.vector
  unfolding turn
  turn_still i p s h q =
      lowered_still s.vector i p (reply S i s.vector s.evaluations).answer (worth_reply i p s.vector s.evaluations) h q

  -- ---- a round

  -- Every turn of a round stays on the way.
  pub turns_on_way : (k : ℕ) → k ≤ size S → (s : Progress) → OnWay S s.vector → OnWay S (turns S k s).vector
  unfolding turns
  turns_on_way k l s h =
      turns_keep S (λ x. OnWay S x.vector) 0 k s (omega arith) (λ i p x w. turn_on_way i (omega arith) x w) h

  -- A round that changes no value finds every value supported.
  round_fair : (s : Progress) → OnWay S s.vector → (round S s).vector ≡ s.vector → (i : ℕ) → i < size S → at s.vector i ≤ worth S i s.vector
  unfolding turns
  round_fair s h q i p =
      let held : (turns S i s).vector ≡ s.vector = turns_held S i (size S) s (omega arith) q in
      let after : (turn S i (turns S i s)).vector ≡ s.vector = turns_held S (suc i) (size S) s p q in
      rw held at (turn_still i p (turns S i s) (turns_on_way i (omega arith) s h) (after ∙ sym held))

  -- A round is a sweep.
  pub round_sweeps : Sweeps S (round S)
  unfolding turns
  round_sweeps s h =
      record {
        lower = turns_below S 0 (size S) s (omega arith);
        keeps = turns_on_way (size S) (le_refl (size S)) s h;
        fair = round_fair s h;
      }
