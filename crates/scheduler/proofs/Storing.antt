-- A store into the entries, seen as the machine's change of one.
use mathlib.Core.Path.{◌≡◌, refl, fun_ext}
use Prim.Native.Nat.{ℕ}
use native.Mathlib.Decide.{ℕ_discrete}
use borrow.Author.Tests.{eq-eqb, ne_eqb}
use Rattle.protocol.specs.State.{Entry}
use Rattle.protocol.specs.Acting.{put}

-- what differs at the place i alone is the new entry put there
pub stored : (f g : ℕ → Entry) (i : ℕ) (e : Entry) → g i ≡ e → ((k : ℕ) → (k ≡ i → ⊥) → g k ≡ f k) → g ≡ put f i e
stored f g i e new old = fun_ext (λ k. go k (ℕ_discrete k i))
  where
    go : (k : ℕ) → Dec (k ≡ i) → g k ≡ put f i e k
    go k (yes q) = rw (q, eq-eqb i i refl) new
    go k (no ne) = rw (ne_eqb k i ne) (old k ne)
