-- Vectors on the way down from the deadlines to the final vector: where they start, the general step, and where they stop.
use Rattle.std.specs.Prelude.{◌≡◌, refl, List, ℕ, ◌≤◌, ◌<◌, length}
use Rattle.std.proofs.Common.{le_trans, le_of_eq, le_antisymm, arith}
use Rattle.rounds.specs.System.{System, size, deadline, Lawful, Final}
use Rattle.rounds.proofs.SystemLaws.{by_tasks}
use Rattle.rounds.specs.Vector.{at, ◌⊑◌}
use Rattle.rounds.proofs.VectorLaws.{⊑_refl, ⊑_trans}
use Rattle.rounds.specs.Worth.{worth}
use Rattle.rounds.proofs.Worth.{worth_mono, worth_within, worth_floor, agrees_worth, worth_agrees}
use Rattle.rounds.specs.OnWay.{OnWay}

module _ (S : System) (L : Lawful S) where
  -- The deadlines are on the way.
  pub on_way_start : OnWay S S.deadlines
  on_way_start =
      record {
        sized = refl;
        within = ⊑_refl S.deadlines;
        tops = λ w h. by_tasks S w S.deadlines h.sized (λ i p. le_trans (h.each i p) (worth_within S L i p w));
        holds = λ i p. worth_within S L i p S.deadlines;
      }

  -- The general step: whichever values are lowered, if none falls below what its task was worth, the vector is still on the way.
  pub on_way_step :
      (v w : List ℕ) → OnWay S v → length w ≡ size S → w ⊑ v → ((i : ℕ) → i < size S → worth S i v ≤ at w i) → OnWay S w
  on_way_step v w h l le floor =
      record {
        sized = l;
        within = ⊑_trans w v S.deadlines le h.within;
        tops = λ x k.
            by_tasks S x w k.sized
            (λ i p. omega (arith, k.each i p, worth_mono S L i p x v (h.tops x k), floor i p));
        holds = λ i p. omega (arith, worth_mono S L i p w v le, floor i p);
      }

  -- The stop: a vector on the way that is supported is the final one.
  pub on_way_stop : (v : List ℕ) → OnWay S v → ((i : ℕ) → i < size S → at v i ≤ worth S i v) → Final S v
  on_way_stop v h stop =
      record {
        agrees = worth_agrees S L v h.sized (λ i p. le_antisymm (stop i p) (h.holds i p));
        largest = λ w k. h.tops w (record { sized = k.sized; each = λ i p. le_of_eq (agrees_worth S L w k i p) });
      }

  -- No value falls below what both its start and its deadline reach.
  pub on_way_floor : (v : List ℕ) → OnWay S v → (i : ℕ) → i < size S → (c : ℕ) → c ≤ S.start i → c ≤ deadline S i → c ≤ at v i
  on_way_floor v h i p c q r =
      le_trans (worth_floor S L i p v c (λ t. le_trans q (L.above i p v t)) r) (h.holds i p)
