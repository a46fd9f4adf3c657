-- What holds of each entry after one is changed, and after some are woken.
use mathlib.Core.Path.{◌≡◌, refl}
use mathlib.Core.Bool.{Bool, true, false, ◌&&◌}
use Prim.Native.Nat.{ℕ, ◌≤◌, ◌<◌}
use lib.Dec.{ltb, eqb}
use borrow.Author.Tests.{ltb-true, ltb-false, lt-ltb, eqb-true, eqb-false}
use Rattle.searches.proofs.Testing.{and_true}
use Rattle.protocol.specs.Tasks.{Table, priority}
use Rattle.protocol.specs.State.{Entry, ready, waiting, is_waiting}
use Rattle.protocol.specs.Acting.{pick, put, become, woken}
use Rattle.protocol.proofs.Testing.{waiting_is}

-- what holds of either entry, by the test, holds of the one picked
pick_each : (Q : Entry → Type 0) (b : Bool) {x y : Entry} → (b ≡ true → Q x) → (b ≡ false → Q y) → Q (pick b x y)
pick_each Q true new old = new refl
pick_each Q false new old = old refl

-- what holds of the new entry at i, and of each old one elsewhere, holds of each entry
pub put_each : (Q : Entry → Type 0) (f : ℕ → Entry) (i : ℕ) (e : Entry) (k : ℕ)
    → (k ≡ i → Q e) → ((k ≡ i → ⊥) → Q (f k)) → Q (put f i e k)
put_each Q f i e k new old = pick_each Q (eqb k i) (λ t. new (eqb-true k i t)) (λ t. old (eqb-false k i t))

-- what holds of a waiting job above the ceiling made ready, and of each other as it is, holds of each entry
pub woken_each : (Q : Entry → Type 0) (T : Table) (c : ℕ) (f : ℕ → Entry) (k : ℕ)
    → (k < T.size → (f k).status ≡ waiting → c < priority T k → Q (become ready (f k)))
    → ((k < T.size → (f k).status ≡ waiting → priority T k ≤ c) → Q (f k)) → Q (woken T c f k)
woken_each Q T c f k new old =
    pick_each Q (ltb k T.size && (is_waiting (f k).status && _))
    (λ t.
    let a = and_true (ltb k T.size) _ t in
    let b = and_true (is_waiting (f k).status) _ a.1 in
    new (ltb-true _ _ a.0) (waiting_is _ b.0) (ltb-true c (priority T k) b.1))
    (λ t. old (λ lt e. ltb-false c (priority T k) (rw (lt-ltb k T.size lt, e) at t)))
