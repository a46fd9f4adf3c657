-- What a round must do, whatever its order and its engine, for the rounds to end in the final vector.
use Rattle.std.specs.Prelude.{◌≡◌, List, ℕ, ◌<◌}
use Rattle.std.proofs.Common.{sym, ◌∙◌, arith}
use Rattle.std.proofs.Math.Decide.{dec_lt}
use Rattle.rounds.specs.OnWay.{OnWay}
use Rattle.rounds.proofs.OnWay.{on_way_stop}
use Rattle.rounds.specs.System.{System, Lawful, Final}
use Rattle.rounds.specs.Vector.{sum}
use Rattle.rounds.proofs.VectorLaws.{sum_same}
use Rattle.rounds.specs.Sweep.{Sweep}

-- A sweep that changes a value lowers the sum.
pub sweep_falls : (S : System) (v w : List ℕ) → OnWay S v → Sweep S v w → (w ≡ v → ⊥) → sum w < sum v
sweep_falls S v w h k ne = go (dec_lt (sum w) (sum v))
  where
    go : Dec (sum w < sum v) → sum w < sum v
    go (yes p) = p
    go (no p) = absurd (ne (sum_same w v (k.keeps.sized ∙ sym h.sized) k.lower (omega arith)))

-- A sweep that changes no value stands at the final vector.
pub sweep_stop : (S : System) → Lawful S → (v w : List ℕ) → OnWay S v → Sweep S v w → w ≡ v → Final S v
sweep_stop S L v w h k q = on_way_stop S L v h (k.fair q)
