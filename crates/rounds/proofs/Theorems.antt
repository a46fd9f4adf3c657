-- What holds of the analysis of every lawful system, with any number of tasks: it ends, at the final vector, and every answer is right under it.
use Rattle.std.specs.Prelude.{◌≡◌}
use Rattle.std.proofs.Math.Path.{sym, ap}
use Rattle.std.proofs.Common.{◌∙◌, arith}
use Prim.Native.Nat.{ℕ, suc, ◌≤◌, ◌<◌}
use Rattle.std.proofs.Math.Decide.{dec_le}
use Rattle.rounds.specs.Answer.{Right, value}
use Rattle.rounds.specs.LastRound.{Reached}
use Rattle.rounds.proofs.LastRound.{last_reached, last_more, last_ends, last_on_way}
use Rattle.rounds.specs.OnWay.{OnWay}
use Rattle.rounds.proofs.OnWay.{on_way_start}
use Rattle.rounds.proofs.RoundLaws.{turns_held}
use Rattle.rounds.proofs.RoundSweep.{round_sweeps}
use Rattle.rounds.specs.Rounds.{reply, turns, round, last_from, begin, before_last, analysis, answer}
use Rattle.rounds.proofs.Sweep.{sweep_stop}
use Rattle.rounds.specs.System.{System, size, deadline, Lawful, Final}
use Rattle.rounds.specs.Vector.{at, sum}
use Rattle.rounds.proofs.Worth.{reply_any, reply_right, agrees_worth}

module _ (S : System) (L : Lawful S) where
  -- The rounds end: the last one changes no value.
  pub analysis_ends : (analysis S).vector ≡ (before_last S).vector
  unfolding analysis before_last
  analysis_ends =
      last_ends S (round S) (round_sweeps S L) (suc (sum S.deadlines)) (begin S) (omega arith) (on_way_start S L)

  -- Each round before the last changed a value.
  pub analysis_reached : Reached (round S) (begin S) (before_last S)
  unfolding before_last
  analysis_reached = last_reached (round S) (suc (sum S.deadlines)) (begin S)

  -- Whatever the fuel, if it reaches a round that changes no value, that is the last round.
  pub analysis_any_fuel : (k : ℕ) → (round S (last_from (round S) k (begin S))).vector ≡ (last_from (round S) k (begin S)).vector
      → last_from (round S) k (begin S) ≡ before_last S
  unfolding analysis before_last
  analysis_any_fuel k q = go (dec_le k (suc (sum S.deadlines)))
    where
      go : Dec (k ≤ suc (sum S.deadlines)) → last_from (round S) k (begin S) ≡ before_last S
      go (yes l) = sym (last_more (round S) k (suc (sum S.deadlines)) (begin S) l q)
      go (no l) = last_more (round S) (suc (sum S.deadlines)) k (begin S) (omega arith) analysis_ends

  -- All fuel above the sum of the deadlines reaches it: more changes neither vector nor total.
  pub analysis_fuel : (k : ℕ) → sum S.deadlines < k → round S (last_from (round S) k (begin S)) ≡ analysis S
  unfolding analysis
  analysis_fuel k l =
      ap (round S) (analysis_any_fuel k (last_ends S (round S) (round_sweeps S L) k (begin S) l (on_way_start S L)))

  -- The vector is still on the way down where it ends.
  pub analysis_on_way : OnWay S (analysis S).vector
  unfolding before_last
  analysis_on_way =
      rw analysis_ends (last_on_way S (round S) (round_sweeps S L) (suc (sum S.deadlines)) (begin S) (on_way_start S L))

  -- The analysis ends at the final vector, the largest that agrees.
  pub analysis_final : Final S (analysis S).vector
  unfolding analysis
  analysis_final =
      let h : OnWay S (before_last S).vector = rw analysis_ends at analysis_on_way in
      rw analysis_ends
      (sweep_stop S L (before_last S).vector (round S (before_last S)).vector h (round_sweeps S L (before_last S) h) analysis_ends)

  module _ (i : ℕ) (p : i < size S) where
    -- The answer of the last round is that of the solver under the final vector.
    pub answer_final : (e : ℕ) → answer S i ≡ (reply S i (analysis S).vector e).answer
    unfolding answer analysis
    answer_final e =
        let now = turns S i (before_last S) in
        let held : now.vector ≡ (before_last S).vector = turns_held S i (size S) (before_last S) (omega arith) analysis_ends in
        reply_any S L i p now.vector now.evaluations e ∙ ap (λ v. (reply S i v e).answer) (held ∙ sym analysis_ends)

    -- Every answer is right under the final vector.
    pub answer_right : Right (S.side i (analysis S).vector) (deadline S i) (answer S i)
    answer_right = rw (answer_final 0) (reply_right S L i p (analysis S).vector 0)

    -- The final vector has the value of every answer.
    pub answer_value_lem : at (analysis S).vector i ≡ value (deadline S i) (answer S i)
    answer_value_lem = rw (answer_final 0) (agrees_worth S L (analysis S).vector analysis_final.agrees i p)
