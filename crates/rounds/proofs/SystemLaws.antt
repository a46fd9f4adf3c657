-- Laws of agreeing vectors: there is at most one final vector, and no value is above its deadline.
use Rattle.std.specs.Prelude.{◌≡◌, List, ℕ, ◌≤◌, ◌<◌, length}
use Rattle.std.proofs.Common.{sym, ◌∙◌, arith}
use Rattle.std.proofs.Math.Decide.{dec_lt}
use Rattle.std.proofs.Math.ListN.{get_or-eq_default}
use Rattle.rounds.proofs.AnswerLaws.{value_within}
use Rattle.rounds.specs.System.{System, size, deadline, Agrees, Final}
use Rattle.rounds.specs.Vector.{at, ◌⊑◌}
use Rattle.rounds.proofs.VectorLaws.{⊑-antisymm}

-- There is at most one final vector.
pub final_unique : (S : System) (v w : List ℕ) → Final S v → Final S w → v ≡ w
final_unique S v w p q =
    ⊑-antisymm v w (p.agrees.sized ∙ sym q.agrees.sized) (q.largest v p.agrees) (p.largest w q.agrees)

-- The order of two vectors need be seen at the tasks only.
pub by_tasks : (S : System) (v w : List ℕ) → length v ≡ size S → ((i : ℕ) → i < size S → at v i ≤ at w i) → v ⊑ w
by_tasks S v w l h i = go (dec_lt i (size S))
  where
    go : Dec (i < size S) → at v i ≤ at w i
    go (yes p) = h i p
    go (no p) = omega (arith, get_or-eq_default v 0 {n = i} (omega arith))

-- No value of an agreeing vector is above its deadline.
pub agrees_within : (S : System) (v : List ℕ) → Agrees S v → v ⊑ S.deadlines
agrees_within S v h =
    by_tasks S v S.deadlines h.sized
    (λ i p. let a = h.each i p in omega (arith, a.2, value_within (S.side i v) (deadline S i) a.0 a.1))
