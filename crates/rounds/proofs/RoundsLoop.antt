-- The analysis as a loop over rounds: finishing from here gives the whole, and the sum of the values falls.
use Rattle.std.specs.Prelude.{◌≡◌, refl, true, false, ℕ, ◌≤◌, ◌<◌}
use Rattle.std.proofs.Math.Path.{ap}
use Rattle.std.proofs.Common.{◌∙◌, arith}
use Rattle.rounds.proofs.LastRound.{last_here, last_again, last_grows}
use Rattle.rounds.proofs.OnWay.{on_way_start}
use Rattle.rounds.proofs.RoundLaws.{changed_true, changed_false, round_grows}
use Rattle.rounds.proofs.RoundSweep.{round_sweeps}
use Rattle.rounds.specs.Rounds.{Progress, round, answer_in, changed, begin, before_last, analysis, answer}
use Rattle.rounds.proofs.Sweep.{sweep_falls}
use Rattle.rounds.specs.System.{System, Lawful}
use Rattle.rounds.specs.Vector.{sum}
use Rattle.rounds.specs.RoundsLoop.{Going}

-- The loop begins so at the deadlines.
pub going_start : (S : System) → Lawful S → (allowance : ℕ) → Going S allowance (begin S)
unfolding before_last
going_start S L allowance = record { way = on_way_start S L; finishing = refl; counted = omega arith }

module _ (S : System) (L : Lawful S) (allowance : ℕ) (s : Progress) (c : Going S allowance s) where
  -- Where the round passes the allowance, the analysis does.
  pub going_over : allowance < (round S s).evaluations → allowance < (analysis S).evaluations
  unfolding analysis
  going_over l = rw c.finishing (omega (arith, last_grows (round S) (round_grows S) s))

  -- A round that changes a value leads on.
  pub going_next : changed s (round S s) ≡ true → (round S s).evaluations ≤ allowance → Going S allowance (round S s)
  going_next q l =
      record {
        way = (round_sweeps S L s c.way).keeps;
        finishing = c.finishing ∙ last_again S (round S) (round_sweeps S L) s c.way (changed_true s (round S s) q);
        counted = l;
      }

  -- Then the sum of the values is smaller.
  pub going_less : changed s (round S s) ≡ true → sum (round S s).vector < sum s.vector
  going_less q =
      sweep_falls S s.vector (round S s).vector c.way (round_sweeps S L s c.way) (changed_true s (round S s) q)

  -- A round that changes no value is the last.
  going_last : changed s (round S s) ≡ false → before_last S ≡ s
  going_last q = c.finishing ∙ last_here (round S) (sum s.vector) s (changed_false s (round S s) q)

  -- The last round gives the analysis.
  pub going_end : changed s (round S s) ≡ false → analysis S ≡ round S s
  unfolding analysis
  going_end q = ap (round S) (going_last q)

  -- The answers of the last round are those of the analysis.
  pub going_answers : changed s (round S s) ≡ false → (i : ℕ) → answer S i ≡ answer_in S s i
  unfolding answer
  going_answers q i = ap (λ x. answer_in S x i) (going_last q)
