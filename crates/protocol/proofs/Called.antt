-- All that the argument needs of one call.
use mathlib.Core.Path.{◌≡◌, refl, sym, ap, ◌∙◌}
use mathlib.Core.Logic.{◌⊎◌, inl, inr, ⊎_elim}
use mathlib.Core.Bool.{Bool, true, false}
use Prim.Native.Nat.{ℕ, ◌≤◌, ◌<◌}
use native.Mathlib.Omega.{arith}
use lib.Dec.{ltb}
use Rattle.searches.proofs.Testing.{impossible}
use Rattle.protocol.specs.Tasks.{Table, priority}
use Rattle.protocol.specs.State.{State}
use Rattle.protocol.specs.Running.{system_ceiling, Rule}
use Rattle.protocol.specs.Checks.{Call, release, resume, lock, unlock, suspend, complete, grant, ruling}
use Rattle.protocol.specs.Acting.{admitted_by, admitted, own}
use Rattle.protocol.specs.Step.{step}
use Rattle.protocol.specs.Accepted.{Accepted, Lawful}
use Rattle.protocol.specs.Trace.{Event, nothing, released, resumed, slept, ended, accepted, outcome}
use Rattle.protocol.proofs.Invariant.{Unfinished, Inv}
use Rattle.protocol.proofs.Lows.{Awake, awake_live}
use Rattle.protocol.proofs.Granted.{Granted, granted}
use Rattle.protocol.proofs.Starts.{step_inv}
use Rattle.protocol.proofs.Effects.{Effect, effect}
use Rattle.protocol.proofs.Steps.{step_each, subject, names_task, granted_at, subject_is}

-- From the state s to t by the event e, under one table.
pub record Called (E : Rule) (T : Table) (s : State) (e : Event) (t : State) : Type 0 where
  pub inv : Inv E T t
  pub effect : Effect E T s t e
  -- An event names a task of the table.
  pub named : (e ≡ nothing → ⊥) → (i : ℕ) × (i < T.size) × (priority T i ≡ subject e)
  -- A release or a resume leaves its job awake,
  pub begins : (i : ℕ) → i < T.size → (e ≡ released (priority T i)) ⊎ (e ≡ resumed (priority T i)) → Awake (t.entry i).status
  -- and it stays awake until it sleeps or ends.
  pub awake : (i : ℕ) → Awake (s.entry i).status → (e ≡ slept (priority T i) → ⊥) → (e ≡ ended (priority T i) → ⊥) → Awake (t.entry i).status
  -- Until it ends a job is unfinished, and its sleeps do not fall.
  pub live : (i : ℕ) → Unfinished (s.entry i) → (e ≡ ended (priority T i) → ⊥)
      → Unfinished (t.entry i) × ((s.entry i).sleeps ≤ (t.entry i).sleeps)
  -- A sleep counts.
  pub counts : (i : ℕ) → i < T.size → e ≡ slept (priority T i) → (s.entry i).sleeps < (t.entry i).sleeps

-- an admitted job is awake
admitted_awake : (b : Bool) → Awake (admitted_by b)
admitted_awake true = tt
admitted_awake false = tt

module _ (E : Rule) (T : Table) (s : State) where
  -- the job's own entry after a release or a resume
  began : (c : Call) (k : ℕ) → (accepted c ≡ released (priority T k)) ⊎ (accepted c ≡ resumed (priority T k))
      → Awake (own T (system_ceiling T s) s.entry c k).status
  began (release p) k h = admitted_awake (ltb (system_ceiling T s) (priority T k))
  began (resume p n) k h = admitted_awake (ltb (system_ceiling T s) (priority T k))
  began (lock p n r) k h = absurd (⊎_elim (λ e. impossible cc) (λ e. impossible cc) h)
  began (unlock p n r) k h = absurd (⊎_elim (λ e. impossible cc) (λ e. impossible cc) h)
  began (suspend p n) k h = absurd (⊎_elim (λ e. impossible cc) (λ e. impossible cc) h)
  began (complete p n) k h = absurd (⊎_elim (λ e. impossible cc) (λ e. impossible cc) h)

  -- a release or a resume leaves its job awake
  begins : Accepted T → (c : Call) (k : ℕ) → k < T.size
      → (outcome (ruling E T s c) c ≡ released (priority T k)) ⊎ (outcome (ruling E T s c) c ≡ resumed (priority T k))
      → Awake ((step E T s c).state.entry k).status
  begins A c k lt h =
      let w : (ruling E T s c ≡ grant k) × ((accepted c ≡ released (priority T k)) ⊎ (accepted c ≡ resumed (priority T k))) =
      ⊎_elim
      (λ e. let w = granted_at E T s A c k (released (priority T k)) lt (λ z. impossible cc) refl e in (w.0, inl w.1))
      (λ e. let w = granted_at E T s A c k (resumed (priority T k)) lt (λ z. impossible cc) refl e in (w.0, inr w.1)) h in
      step_each E T s k {Q = λ e. Awake e.status} (record { wakes = λ e w a. tt; starts = λ e a. a }) c
      (λ g. began c k w.1) (λ no. absurd (no w.0))

  -- an awake job stays awake until it sleeps or ends
  awake_kept : (c : Call) (k : ℕ) → Awake (s.entry k).status → (outcome (ruling E T s c) c ≡ slept (priority T k) → ⊥)
      → (outcome (ruling E T s c) c ≡ ended (priority T k) → ⊥) → Awake ((step E T s c).state.entry k).status
  awake_kept c k a ns ne =
      step_each E T s k {Q = λ e. Awake e.status} (record { wakes = λ e w h. tt; starts = λ e h. h }) c
      (λ g. let w = subject_is E T s c k g in go c w.1 (λ z. ns (w.0 ∙ z)) (λ z. ne (w.0 ∙ z)))
      (λ no. a)
    where
      go : (d : Call) → priority T k ≡ subject (accepted d) → (accepted d ≡ slept (priority T k) → ⊥) → (accepted d ≡ ended (priority T k) → ⊥)
          → Awake (own T (system_ceiling T s) s.entry d k).status
      go (release p) q x y = admitted_awake (ltb (system_ceiling T s) (priority T k))
      go (resume p n) q x y = admitted_awake (ltb (system_ceiling T s) (priority T k))
      go (lock p n r) q x y = a
      go (unlock p n r) q x y = a
      go (suspend p n) q x y = absurd (x (ap slept (sym q)))
      go (complete p n) q x y = absurd (y (ap ended (sym q)))

  -- until it ends a job is unfinished, and its sleeps do not fall
  live_kept : (c : Call) (k : ℕ) → Unfinished (s.entry k) → (outcome (ruling E T s c) c ≡ ended (priority T k) → ⊥)
      → Unfinished ((step E T s c).state.entry k) × ((s.entry k).sleeps ≤ ((step E T s c).state.entry k).sleeps)
  live_kept c k u ne =
      step_each E T s k {Q = λ e. Unfinished e × ((s.entry k).sleeps ≤ e.sleeps)}
      (record { wakes = λ e w h. (λ z. impossible cc, h.1); starts = λ e h. h }) c
      (λ g. let w = subject_is E T s c k g in go c (granted E T s c k g) w.1 (λ z. ne (w.0 ∙ z)))
      (λ no. (u, omega arith))
    where
      go : (d : Call) → Granted E T s d k → priority T k ≡ subject (accepted d) → (accepted d ≡ ended (priority T k) → ⊥)
          → Unfinished (own T (system_ceiling T s) s.entry d k) × ((s.entry k).sleeps ≤ (own T (system_ceiling T s) s.entry d k).sleeps)
      go (release p) g q y = absurd (u g.2)
      go (resume p n) g q y =
          (awake_live (admitted T (system_ceiling T s) k) (admitted_awake (ltb (system_ceiling T s) (priority T k))), omega arith)
      go (lock p n r) g q y = (u, omega arith)
      go (unlock p n r) g q y = (u, omega arith)
      go (suspend p n) g q y = (λ e. impossible cc, omega arith)
      go (complete p n) g q y = absurd (y (ap ended (sym q)))

  -- a sleep counts
  sleep_counts : Accepted T → (c : Call) (k : ℕ) → k < T.size → outcome (ruling E T s c) c ≡ slept (priority T k)
      → (s.entry k).sleeps < ((step E T s c).state.entry k).sleeps
  sleep_counts A c k lt h =
      let w = granted_at E T s A c k (slept (priority T k)) lt (λ z. impossible cc) refl h in
      step_each E T s k {Q = λ e. (s.entry k).sleeps < e.sleeps} (record { wakes = λ e x y. y; starts = λ e y. y }) c
      (λ g. go c w.1) (λ no. absurd (no w.0))
    where
      go : (d : Call) → accepted d ≡ slept (priority T k) → (s.entry k).sleeps < (own T (system_ceiling T s) s.entry d k).sleeps
      go (release p) h = absurd (impossible cc)
      go (resume p n) h = absurd (impossible cc)
      go (lock p n r) h = absurd (impossible cc)
      go (unlock p n r) h = absurd (impossible cc)
      go (suspend p n) h = omega arith
      go (complete p n) h = absurd (impossible cc)

-- each call is so
pub called : {E : Rule} → Lawful E → {T : Table} → Accepted T → {s : State} → Inv E T s → (c : Call)
    → Called E T s (outcome (ruling E T s c) c) (step E T s c).state
called {E} L {T} A {s} I c = record {
  inv = step_inv L A I c;
  effect = effect L A I c;
  named = names_task E T s c;
  begins = begins E T s A c;
  awake = awake_kept E T s c;
  live = live_kept E T s c;
  counts = sleep_counts E T s A c;
}
