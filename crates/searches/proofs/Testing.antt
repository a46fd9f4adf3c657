-- What passed and failed tests say, and that a false equation proves anything.
use mathlib.Core.Path.{◌≡◌, refl}
use mathlib.Core.Bool.{Bool, true, false, ◌&&◌}
use Prim.Native.Nat.{ℕ}
use native.Mathlib.Omega.{arith}

-- two constructors are never equal: `cc` finds 0 ≡ 1 where an equation in scope says that they are
pub impossible : ◌≡◌ {A = ℕ} 0 1 → ⊥
impossible e = omega arith

-- both tests passed
pub and_true : (p q : Bool) → p && q ≡ true → (p ≡ true) × (q ≡ true)
and_true true q e = (refl, e)
and_true false q e = (e, cc)

-- two passed tests pass together
pub true_and : {p q : Bool} → p ≡ true → q ≡ true → p && q ≡ true
true_and e f = rw (e, f)
