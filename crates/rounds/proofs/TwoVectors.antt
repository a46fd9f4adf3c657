-- A lawful system that two vectors agree with: its analysis ends at the larger.
use Rattle.std.specs.Prelude.{◌≡◌, refl, [], ◌∷◌, ℕ, zero, suc, ◌-◌, ◌<◌}
use Rattle.std.proofs.Common.{arith}
use Rattle.rounds.specs.Rounds.{turn, turns, last_from, before_last, analysis}
use Rattle.rounds.specs.Solver.{climb, solve}
use Rattle.rounds.specs.System.{size, Lawful, Agrees, Final}
use Rattle.rounds.proofs.Theorems.{analysis_final}
use Rattle.rounds.specs.Vector.{at}
use Rattle.rounds.specs.Worth.{worth}
use Rattle.rounds.proofs.Worth.{worth_agrees}
use Rattle.rounds.specs.TwoVectors.{pair}

-- It is lawful.
pub pair_lawful : Lawful pair
pair_lawful =
    record {
      positive = λ i p. omega arith;
      above = λ i p v t. omega arith;
      rises = λ i p v w t u le h. omega (arith, le (1 - i));
    }

-- The values 1 and 1 agree.
pub ones_agree : Agrees pair (1 ∷ 1 ∷ [])
unfolding solve climb
ones_agree = worth_agrees pair pair_lawful (1 ∷ 1 ∷ []) refl each
  where
    each : (i : ℕ) → i < size pair → at (1 ∷ 1 ∷ []) i ≡ worth pair i (1 ∷ 1 ∷ [])
    each zero p = refl
    each (suc zero) p = refl
    each (suc (suc i)) p = absurd (omega arith)

-- The analysis ends at 2 and 2, with eight evaluations in two rounds.
pub ends_at_twos : analysis pair ≡ record { vector = 2 ∷ 2 ∷ []; evaluations = 8 }
unfolding analysis before_last last_from turns turn solve climb
ends_at_twos = refl

-- So these are final, and agree too.
pub twos_final : Final pair (2 ∷ 2 ∷ [])
twos_final = rw ends_at_twos at (analysis_final pair pair_lawful)
