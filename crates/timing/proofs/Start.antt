-- Where the window of a job begins: at the last state, up to its release, in which no obstacle of its task had a job.
use Prim.Native.Nat.{ℕ, zero, suc, ◌≤◌, ◌<◌}
use mathlib.Core.Path.{◌≡◌, refl, sym, subst}
use mathlib.Core.Logic.{◌⊎◌, inl, inr}
use native.Mathlib.Omega.{arith}
use native.Mathlib.Decide.{dec_le, ℕ_discrete}
use Rattle.searches.proofs.Testing.{impossible}
use Rattle.protocol.specs.Tasks.{Table, priority, setting}
use Rattle.protocol.specs.State.{none, State}
use Rattle.protocol.specs.Trace.{ended, after}
use Rattle.timing.proofs.Jobs.{no_job, is_ended, holds_at, next, stays_none, at_end}
use Rattle.timing.proofs.Cover.{Blocks, own_end}
use Rattle.timing.proofs.Given.{Given, state, ev}

-- Up to the release by the call a, the last state in which no obstacle of i has a job. From there to the release i has none either.
pub record Start (G : Given) (i a : ℕ) : Type 0 where
  pub index : ℕ
  pub early : index ≤ a
  pub clear : (j : ℕ) → Blocks G.table (state G index) i j → ⊥
  pub busy : (k : ℕ) → index < k → k ≤ a → (j : ℕ) × Blocks G.table (state G k) i j
  pub idle : (k : ℕ) → index ≤ k → k ≤ a → ((state G k).entry i).status ≡ none

-- some obstacle of i, of those below n, has a job, or none has
obstacle : (T : Table) (s : State) (i n : ℕ) → n ≤ T.size → ((j : ℕ) × Blocks T s i j) ⊎ ((j : ℕ) → j < n → Blocks T s i j → ⊥)
obstacle T s i zero le = inr (λ j lt b. omega arith)
obstacle T s i (suc n) le = go (obstacle T s i n (omega arith)) (dec_le (priority T i) (setting T n)) (no_job (s.entry n))
  where
    more : ((j : ℕ) → j < n → Blocks T s i j → ⊥) → (Blocks T s i n → ⊥) → (j : ℕ) → j < suc n → Blocks T s i j → ⊥
    more f last j lt b = by (ℕ_discrete j n)
      where
        by : Dec (j ≡ n) → ⊥
        by (yes e) = last (subst (Blocks T s i) e b)
        by (no ne) = f j (omega arith) b

    go : ((j : ℕ) × Blocks T s i j) ⊎ ((j : ℕ) → j < n → Blocks T s i j → ⊥) → Dec (priority T i ≤ setting T n) → Dec ((s.entry n).status ≡ none)
        → ((j : ℕ) × Blocks T s i j) ⊎ ((j : ℕ) → j < suc n → Blocks T s i j → ⊥)
    go (inl w) d z = inl w
    go (inr f) (yes d) (no z) = inl (n, record { inside = omega arith; reaches = d; live = z })
    go (inr f) (yes d) (yes z) = inr (more f (λ b. b.live z))
    go (inr f) (no d) z = inr (more f (λ b. d b.reaches))

module _ (G : Given) (i : ℕ) (lt : i < G.table.size) where
  -- it begins here
  here : (a : ℕ) → ((state G a).entry i).status ≡ none → ((j : ℕ) → j < G.table.size → Blocks G.table (state G a) i j → ⊥) → Start G i a
  here a z f = record {
    index = a;
    early = omega arith;
    clear = λ j b. f j b.inside b;
    busy = λ k lo hi. absurd (omega arith);
    idle = λ k lo hi. let e : a ≡ k = omega arith in subst (λ x. ((state G x).entry i).status ≡ none) e z;
  }

  -- or where it began for the state before
  further : (k : ℕ) → ((state G (suc k)).entry i).status ≡ none → (j : ℕ) × Blocks G.table (state G (suc k)) i j → Start G i k → Start G i (suc k)
  further k z w st = record {
    index = st.index;
    early = omega (arith, st.early);
    clear = st.clear;
    busy = λ x lo hi. by x lo hi (ℕ_discrete x (suc k));
    idle = λ x lo hi. of x lo hi (ℕ_discrete x (suc k));
  }
    where
      by : (x : ℕ) → st.index < x → x ≤ suc k → Dec (x ≡ suc k) → (j : ℕ) × Blocks G.table (state G x) i j
      by x lo hi (yes e) = subst (λ y. (j : ℕ) × Blocks G.table (state G y) i j) (sym e) w
      by x lo hi (no ne) = st.busy x lo (omega arith)

      of : (x : ℕ) → st.index ≤ x → x ≤ suc k → Dec (x ≡ suc k) → ((state G x).entry i).status ≡ none
      of x lo hi (yes e) = subst (λ y. ((state G y).entry i).status ≡ none) (sym e) z
      of x lo hi (no ne) = st.idle x lo (omega arith)

  -- while an obstacle has a job, no job of i has ended
  not_ended : (k : ℕ) → ((state G (suc k)).entry i).status ≡ none → (j : ℕ) → Blocks G.table (state G (suc k)) i j
      → ((state G k).entry i).status ≡ none
  not_ended k z j b = go (no_job ((state G k).entry i)) (is_ended (ev G k) (priority G.table i)) (no_job ((state G k).entry j))
    where
      go : Dec (((state G k).entry i).status ≡ none) → Dec (ev G k ≡ ended (priority G.table i)) → Dec (((state G k).entry j).status ≡ none)
          → ((state G k).entry i).status ≡ none
      go (yes y) d x = y
      go (no n) (no d) x = absurd (((next G.accepted G.calls k).live i n d).0 z)
      go (no n) (yes d) (yes x) = absurd (b.live (stays_none G.accepted G.calls k j x (λ e. impossible (cc (d, e)))))
      go (no n) (yes d) (no x) =
          let w = at_end G.accepted G.calls k i lt d in
          absurd (own_end G.accepted (holds_at G.accepted G.calls k) i j w.0 w.1
          (record { inside = b.inside; reaches = b.reaches; live = x }))

  -- where i has no job there is such a start
  pub begin : (a : ℕ) → ((state G a).entry i).status ≡ none → Start G i a
  unfolding after
  begin zero z = here zero z (λ j l b. b.live refl)
  begin (suc k) z = go (obstacle G.table (state G (suc k)) i G.table.size (omega arith)) (begin k)
    where
      go : ((j : ℕ) × Blocks G.table (state G (suc k)) i j) ⊎ ((j : ℕ) → j < G.table.size → Blocks G.table (state G (suc k)) i j → ⊥)
          → (((state G k).entry i).status ≡ none → Start G i k) → Start G i (suc k)
      go (inl w) more = further k z w (more (not_ended k z w.0 w.1))
      go (inr f) more = here (suc k) z f
