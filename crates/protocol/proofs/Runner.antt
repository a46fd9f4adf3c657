-- The running job: what is known of it in any state, and in a fresh one.
use mathlib.Core.Path.{◌≡◌, refl, sym, subst, ◌∙◌}
use mathlib.Core.Logic.{◌⊎◌, inl, inr}
use mathlib.Core.Bool.{Bool, true, false, not, ◌&&◌, or-true, or-false}
use Prim.Native.Nat.{ℕ, ◌≤◌, ◌<◌}
use native.Mathlib.Nat.{le_refl}
use native.Mathlib.Omega.{arith}
use native.Mathlib.Decide.{ℕ_discrete}
use lib.Dec.{ltb}
use borrow.Author.Tests.{ltb-true, lt-ltb, ne_eqb}
use Rattle.searches.specs.Searches.{at, largest, only}
use Rattle.searches.proofs.Testing.{impossible, and_true}
use Rattle.searches.proofs.Searching.{Best, best_found, largest_reaches, largest_below, largest_attained}
use Rattle.protocol.specs.Tasks.{Table, priority, setting}
use Rattle.protocol.specs.State.{Status, none, ready, waiting, asleep, Entry, State, fresh, holds, is_none, is_ready}
use Rattle.protocol.specs.Running.{ceiling, system_priority, Rule, in_force, eligible, running}
use Rattle.protocol.specs.Accepted.{Lawful}
use Rattle.protocol.proofs.Testing.{ready_is}
use Rattle.protocol.proofs.Invariant.{Unfinished, Inv}

-- ---- the rule in force

-- it is lawful
pub lawful : Lawful in_force
lawful = record {
  above = λ system p h lt. rw (lt-ltb system p lt);
  only_above = λ system p e. ltb-true system p (sym (or-false (ltb system p)) ∙ e);
  rises = λ system p q e lt. or-true (ltb system q);
}

-- ---- in the table

-- no user of a resource is above its ceiling
pub user_below : (T : Table) (i r : ℕ) → i < T.size → 0 < (T.task i).uses r → priority T i ≤ ceiling T r
unfolding ceiling
user_below T i r lt u = largest_reaches _ T.size i lt (rw (lt-ltb 0 ((T.task i).uses r) u) (le_refl (priority T i)))

-- a started, unfinished job's setting is not above the system priority
pub setting_below_lem : (T : Table) (f : ℕ → Entry) (i : ℕ) → i < T.size → (f i).started ≡ true → Unfinished (f i) → setting T i ≤ system_priority T f
unfolding system_priority
setting_below_lem T f i lt e u = go (f i).status refl
  where
    go : (x : Status) → (f i).status ≡ x → setting T i ≤ system_priority T f
    go none q = absurd (u q)
    go ready q = largest_reaches _ T.size i lt (rw (e, q) (le_refl (setting T i)))
    go waiting q = largest_reaches _ T.size i lt (rw (e, q) (le_refl (setting T i)))
    go asleep q = largest_reaches _ T.size i lt (rw (e, q) (le_refl (setting T i)))

-- and what none of these settings is above, the system priority is not above
pub priority_below : (T : Table) (f : ℕ → Entry) (m : ℕ)
    → ((i : ℕ) → i < T.size → (f i).started ≡ true → Unfinished (f i) → setting T i ≤ m) → system_priority T f ≤ m
unfolding system_priority
priority_below T f m h =
    largest_below (λ i. only ((f i).started && not (is_none (f i).status)) (setting T i)) T.size m
    (λ i lt. go (f i).started (f i).status (setting T i) (h i lt))
  where
    go : (b : Bool) (x : Status) (n : ℕ) → (b ≡ true → (x ≡ none → ⊥) → n ≤ m) → only (b && not (is_none x)) n ≤ m
    go false x n k = omega arith
    go true none n k = omega arith
    go true ready n k = k refl (λ e. impossible cc)
    go true waiting n k = k refl (λ e. impossible cc)
    go true asleep n k = k refl (λ e. impossible cc)

-- the system priority, above 0, is the setting of a started, unfinished job
pub priority_of : (T : Table) (f : ℕ → Entry) → 0 < system_priority T f
    → (j : ℕ) × (j < T.size) × ((f j).started ≡ true) × Unfinished (f j) × (setting T j ≡ system_priority T f)
unfolding system_priority
priority_of T f up = go (largest_attained adds T.size)
  where
    adds : ℕ → ℕ
    adds j = only ((f j).started && not (is_none (f j).status)) (setting T j)

    counts : (b : Bool) (x : Status) (n m : ℕ) → 0 < m → only (b && not (is_none x)) n ≡ m → (b ≡ true) × (x ≡ none → ⊥) × (n ≡ m)
    counts false x n m p e = absurd (omega arith)
    counts true none n m p e = absurd (omega arith)
    counts true ready n m p e = (refl, λ q. impossible cc, e)
    counts true waiting n m p e = (refl, λ q. impossible cc, e)
    counts true asleep n m p e = (refl, λ q. impossible cc, e)

    go : (largest adds T.size ≡ 0) ⊎ ((j : ℕ) × (j < T.size) × (adds j ≡ largest adds T.size))
        → (j : ℕ) × (j < T.size) × ((f j).started ≡ true) × Unfinished (f j) × (setting T j ≡ largest adds T.size)
    go (inl z) = absurd (omega arith)
    go (inr w) =
        let c = counts (f w.0).started (f w.0).status (setting T w.0) (largest adds T.size) up w.2 in
        (w.0, w.1, c.0, c.1, c.2)

-- ---- held marks

-- an entry with a held mark holds
pub held_holds : (e : Entry) → (e.held ≡ 0 → ⊥) → holds e ≡ true
held_holds e ne = rw (ne_eqb e.held 0 ne)

-- and one that doesn't hold has none
pub free_held : (e : Entry) → holds e ≡ false → e.held ≡ 0
free_held e f = go (ℕ_discrete e.held 0)
  where
    go : Dec (e.held ≡ 0) → e.held ≡ 0
    go (yes z) = z
    go (no ne) = absurd (let h = held_holds e ne in impossible cc)

-- ---- the running job

-- The job at the place i is ready and eligible, and no such job is above it.
pub record Runs (E : Rule) (T : Table) (s : State) (i : ℕ) : Type 0 where
  pub inside : i < T.size
  pub stands : (s.entry i).status ≡ ready
  pub may : E (system_priority T s.entry) (priority T i) (holds (s.entry i)) ≡ true
  pub tops : (j : ℕ) → j < T.size → (s.entry j).status ≡ ready
      → E (system_priority T s.entry) (priority T j) (holds (s.entry j)) ≡ true → priority T j ≤ priority T i

-- so it is of the running job
pub runs : {E : Rule} {T : Table} {s : State} {i : ℕ} → running E T s.entry ≡ at i → Runs E T s i
unfolding running
runs {E} {T} {s} {i} e =
    let b = subst (Best (eligible E T s.entry) (priority T) T.size) e (best_found (eligible E T s.entry) (priority T) T.size) in
    let c = and_true (is_ready (s.entry i).status) _ b.1 in
    record {
      inside = b.0;
      stands = ready_is (s.entry i).status c.0;
      may = c.1;
      tops = λ j lt r f. b.2 j lt (rw r f);
    }

-- ---- a fresh state

-- the invariant holds of it
pub fresh_inv : (E : Rule) (T : Table) → Inv E T fresh
fresh_inv E T = record {
  sound = record {
    each = λ i. record {
      inside = λ u. absurd (u refl);
      mark = λ ne. absurd (ne refl);
      waits = λ e. absurd (impossible cc);
      gap = λ e t o lt. absurd o;
      reach = λ e u t o le. absurd o;
      dozed = λ e. absurd (impossible cc);
      rested = λ u p. absurd (u refl);
    };
    holder = λ t i. absurd i;
    chain = tt;
    room = omega arith;
  };
  started = λ i e. absurd (let r : Runs E T fresh i = runs e in impossible cc);
}
