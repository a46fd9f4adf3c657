-- Laws of one value lowered: a smaller bound replaces it, nothing else changes, and a flag can tell.
use Rattle.std.specs.Prelude.{◌≡◌, refl, Bool, true, false, cond, not, ◌||◌, List, ℕ, ◌<◌, length, set}
use Rattle.std.proofs.Common.{ap, arith, length-set, get_or-set_same, ltb-true}
use Rattle.rounds.specs.Answer.{Answer, bound, none}
use Rattle.rounds.specs.Rounds.{lowers, lowered}
use Rattle.rounds.specs.Vector.{at, ◌⊑◌, same}
use Rattle.rounds.proofs.VectorLaws.{⊑_refl, not_same, set_below, at_inside}

-- The number of values stays.
pub lowered_length : (v : List ℕ) (i : ℕ) (a : Answer) → length (lowered v i a) ≡ length v
lowered_length v i none = refl
lowered_length v i (bound t) = go (lowers v i (bound t))
  where
    go : (b : Bool) → length (cond b (set v i t) v) ≡ length v
    go true = length-set v i t
    go false = refl

-- No value rises.
pub lowered_below : (v : List ℕ) (i : ℕ) (a : Answer) → lowered v i a ⊑ v
lowered_below v i none = ⊑_refl v
lowered_below v i (bound t) = go (lowers v i (bound t)) refl
  where
    go : (b : Bool) → lowers v i (bound t) ≡ b → cond b (set v i t) v ⊑ v
    go true e = set_below v i t (omega (arith, ltb-true))
    go false e = ⊑_refl v

-- A flag raised wherever a value is lowered tells, at every turn of a round from u, whether the vector is no longer u.
pub lowers_flag : (u v : List ℕ) (i : ℕ) (a : Answer) (flag : Bool) → v ⊑ u
    → flag ≡ not (same u v) → lowers v i a || flag ≡ not (same u (lowered v i a))
lowers_flag u v i none flag le h = h
lowers_flag u v i (bound t) flag le h = go (lowers v i (bound t)) refl
  where
    go : (b : Bool) → lowers v i (bound t) ≡ b → b || flag ≡ not (same u (cond b (set v i t) v))
    go true e =
        let p : t < at v i = omega (arith, ltb-true) in
        let z : at (set v i t) i ≡ t = get_or-set_same v i t 0 (at_inside v i (omega arith)) in
        rw (not_same u (set v i t) (λ q. omega (arith, le i, ap (λ w. at w i) q)))
    go false e = h
