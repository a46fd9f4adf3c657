-- A task's next serial counts its accepted releases.
use mathlib.Core.Path.{◌≡◌, refl, sym, ap, ◌∙◌}
use mathlib.Core.Logic.{inl, inr, ◌↔◌}
use mathlib.Core.Bool.{false}
use Prim.Native.Nat.{ℕ, zero, suc, ◌+◌, ◌-◌, ◌/◌, ◌%◌, ◌≤◌, ◌<◌}
use native.Mathlib.Omega.{arith}
use native.Mathlib.Decide.{dec_le}
use borrow.Author.Tests.{eq-eqb, ne_eqb}
use Rattle.searches.specs.Searches.{only}
use Rattle.protocol.specs.Tasks.{Table, priority}
use Rattle.protocol.specs.State.{State}
use Rattle.protocol.specs.Running.{system_ceiling, Rule}
use Rattle.protocol.specs.Checks.{Call, release, resume, lock, unlock, suspend, complete, Ruling, refuse, grant, ruling}
use Rattle.protocol.specs.Acting.{own}
use Rattle.protocol.specs.Accepted.{Accepted}
use Rattle.protocol.specs.Trace.{accepted, outcome, after, event}
use Rattle.protocol.specs.Numbers.{releases_of, releases, Wraps}
use Rattle.protocol.proofs.Granted.{Granted, granted}
use Rattle.protocol.proofs.Steps.{step_each}

module _ (E : Rule) {T : Table} (A : Accepted T) (s : State) (i : ℕ) (lt : i < T.size) where
  -- a release of the task takes the next serial, and no other call of its job does
  own_next : (c : Call) → Granted E T s c i → (s.entry i).next < 65536
      → (own T (system_ceiling T s) s.entry c i).next ≡ ((s.entry i).next + only (releases_of (priority T i) (accepted c)) 1) % 65536
  own_next (release q) g b = rw (eq-eqb (priority T i) q g.0)
  own_next (resume q n) g b = omega arith
  own_next (lock q n r) g b = omega arith
  own_next (unlock q n r) g b = omega arith
  own_next (suspend q n) g b = omega arith
  own_next (complete q n) g b = omega arith

  -- a call that isn't granted to the task's place doesn't release it
  other_releases : (c : Call) → (ruling E T s c ≡ grant i → ⊥) → releases_of (priority T i) (outcome (ruling E T s c) c) ≡ false
  other_releases c elsewhere = go (ruling E T s c) refl
    where
      by : (d : Call) (j : ℕ) → Granted E T s d j → (j ≡ i → ⊥) → releases_of (priority T i) (accepted d) ≡ false
      by (release q) j g ne = ne_eqb (priority T i) q (λ e. ne (A.unique j i g.1 lt (g.0 ∙ sym e)))
      by (resume q n) j g ne = refl
      by (lock q n r) j g ne = refl
      by (unlock q n r) j g ne = refl
      by (suspend q n) j g ne = refl
      by (complete q n) j g ne = refl

      go : (r : Ruling) → ruling E T s c ≡ r → releases_of (priority T i) (outcome r c) ≡ false
      go (refuse n) e = refl
      go (grant j) e = by c j (granted E T s c j e) (λ q. elsewhere (e ∙ ap grant q))

module _ (E : Rule) {T : Table} (A : Accepted T) (calls : ℕ → Call) (i : ℕ) (lt : i < T.size) where
  -- after k calls the next serial is the count of accepted releases, wrapped
  pub next_counts : (k : ℕ) → ((after E T calls k).entry i).next ≡ releases (event E T calls) (priority T i) k % 65536
  unfolding after releases
  next_counts zero = refl
  next_counts (suc k) =
      let s = after E T calls k in
      let ev = event E T calls in
      let p = priority T i in
      let h : (s.entry i).next ≡ releases ev p k % 65536 = next_counts k in
      step_each E T s i {Q = λ e. e.next ≡ (releases ev p k + only (releases_of p (ev k)) 1) % 65536}
      (record { wakes = λ e w q. q; starts = λ e q. q }) (calls k)
      (λ g.
      own_next E A s i lt (calls k) (granted E T s (calls k) i g) (omega arith) ∙
      omega (arith, ap (λ r. only (releases_of p (outcome r (calls k))) 1) g))
      (λ elsewhere. omega (arith, ap (λ b. only b 1) (other_releases E A s i lt (calls k) elsewhere)))

-- two counts agree wrapped just where they differ by a multiple
pub wraps : (k m : ℕ) → (k % 65536 ≡ m % 65536) ↔ Wraps k m
wraps k m = (λ e. go e (dec_le m k), λ w. back w)
  where
    go : k % 65536 ≡ m % 65536 → Dec (m ≤ k) → Wraps k m
    go e (yes le) = (k / 65536 - m / 65536, inl (omega arith))
    go e (no gt) = (m / 65536 - k / 65536, inr (omega arith))

    back : Wraps k m → k % 65536 ≡ m % 65536
    back (d, inl e) = omega arith
    back (d, inr e) = omega arith
