-- How a job's sleeps and the sections that it opened are counted along the calls.
use Prim.Native.Nat.{ℕ, zero, suc, ◌≤◌, ◌<◌}
use mathlib.Core.Path.{◌≡◌, refl, sym, ap, subst, ◌∙◌}
use mathlib.Core.Logic.{◌⊎◌, inl, inr, ⊎_elim}
use native.Mathlib.Omega.{arith}
use native.Mathlib.Decide.{dec_le, ℕ_discrete}
use borrow.Author.Tests.{eq-eqb}
use lib.Dec.{eqb}
use Rattle.searches.specs.Searches.{at, only}
use Rattle.searches.proofs.Testing.{impossible}
use Rattle.protocol.specs.Tasks.{Table, priority}
use Rattle.protocol.specs.State.{asleep, Entry, State}
use Rattle.protocol.specs.Running.{system_ceiling, in_force, running}
use Rattle.protocol.specs.Checks.{Call, release, resume, lock, unlock, suspend, complete, ruling}
use Rattle.protocol.specs.Acting.{own}
use Rattle.protocol.specs.Step.{step}
use Rattle.protocol.specs.Accepted.{Accepted}
use Rattle.protocol.specs.Trace.{Event, released, opened, accepted, outcome, after, event, Has}
use Rattle.protocol.proofs.Lows.{Awake, awake_or_asleep}
use Rattle.protocol.proofs.Granted.{Granted, granted}
use Rattle.protocol.proofs.Steps.{step_each, granted_at, subject_is}
use Rattle.protocol.proofs.Counting as counting
use Rattle.timing.proofs.Jobs.{run, there_live}

-- ---- one call

-- What a call in the state s leaves of the sleeps at the place k, where x is its event and e the entry after it.
record Sleeps (T : Table) (s : State) (k : ℕ) (x : Event) (e : Entry) : Type 0 where
  -- They begin at 0,
  begin : x ≡ released (priority T k) → e.sleeps ≡ 0
  -- stay X at most,
  most : (s.entry k).sleeps ≤ (T.task k).most → e.sleeps ≤ (T.task k).most
  -- rise only where the job runs,
  runs : (e.sleeps ≤ (s.entry k).sleeps) ⊎ (running in_force T s.entry ≡ at k)
  -- and rise where it was awake and is asleep.
  rise : Awake (s.entry k).status → e.status ≡ asleep → (s.entry k).sleeps < e.sleeps

-- What it leaves of the sections of r that were opened.
record Opens (T : Table) (s : State) (k r : ℕ) (x : Event) (e : Entry) : Type 0 where
  -- A release alone counts them anew,
  kept : (x ≡ released (priority T k) → ⊥) → (s.entry k).opened r ≤ e.opened r
  -- and a lock finds fewer than N and counts.
  more : x ≡ opened (priority T k) r → ((s.entry k).opened r < (T.task k).uses r) × ((s.entry k).opened r < e.opened r)

module _ {T : Table} {s : State} {k : ℕ} where
  -- sleeps as they were
  sleeps_still : {x : Event} {e : Entry} → (x ≡ released (priority T k) → ⊥) → e.status ≡ (s.entry k).status → e.sleeps ≡ (s.entry k).sleeps
      → Sleeps T s k x e
  sleeps_still other q p = record {
    begin = λ z. absurd (other z);
    most = λ h. omega (arith, p);
    runs = inl (omega (arith, p));
    rise = λ a z. absurd (subst Awake (sym q ∙ z) a);
  }

  -- sections as they were
  opens_still : {r : ℕ} {x : Event} {e : Entry} → (x ≡ opened (priority T k) r → ⊥) → e.opened r ≡ (s.entry k).opened r → Opens T s k r x e
  opens_still other p = record { kept = λ z. omega (arith, p); more = λ z. absurd (other z) }

  -- the sleeps of the job that makes the call
  own_sleeps : (c : Call) → Granted in_force T s c k → Sleeps T s k (accepted c) (own T (system_ceiling T s) s.entry c k)
  own_sleeps (release p) g =
      record { begin = λ z. refl; most = λ h. omega arith; runs = inl (omega arith); rise = λ a z. absurd (subst Awake g.2 a) }
  own_sleeps (resume p n) g =
      record { begin = λ z. absurd (impossible cc); most = λ h. h; runs = inl (omega arith); rise = λ a z. absurd (subst Awake g.2 a) }
  own_sleeps (lock p n r) g = sleeps_still (λ z. impossible cc) refl refl
  own_sleeps (unlock p n r) g = sleeps_still (λ z. impossible cc) refl refl
  own_sleeps (suspend p n) g =
      record { begin = λ z. absurd (impossible cc); most = λ h. omega (arith, g.2); runs = inr g.0.runs; rise = λ a z. omega arith }
  own_sleeps (complete p n) g =
      record { begin = λ z. absurd (impossible cc); most = λ h. h; runs = inl (omega arith); rise = λ a z. absurd (impossible cc) }

  -- its sections
  own_opens : (r : ℕ) (c : Call) → Granted in_force T s c k → Opens T s k r (accepted c) (own T (system_ceiling T s) s.entry c k)
  own_opens r (release p) g = record { kept = λ no. absurd (no (ap released (sym g.0))); more = λ z. absurd (impossible cc) }
  own_opens r (resume p n) g = opens_still (λ z. impossible cc) refl
  own_opens r (lock p n q) g = record {
    kept = λ no. omega arith;
    more = λ z.
        let same : q ≡ r = cc in
        let one : only (eqb r q) 1 ≡ 1 = rw (eq-eqb r q (sym same)) in
        (subst (λ y. (s.entry k).opened y < (T.task k).uses y) same g.4, omega (arith, one));
  }
  own_opens r (unlock p n q) g = opens_still (λ z. impossible cc) refl
  own_opens r (suspend p n) g = opens_still (λ z. impossible cc) refl
  own_opens r (complete p n) g = opens_still (λ z. impossible cc) refl

module _ {T : Table} (A : Accepted T) (s : State) (c : Call) (k : ℕ) (lt : k < T.size) where
  -- the sleeps of any job
  step_sleeps : Sleeps T s k (outcome (ruling in_force T s c) c) ((step in_force T s c).state.entry k)
  step_sleeps =
      step_each in_force T s k {Q = Sleeps T s k (outcome (ruling in_force T s c) c)}
      (record {
        wakes = λ e w h. record { begin = h.begin; most = h.most; runs = h.runs; rise = λ a z. absurd (impossible cc) };
        starts = λ e h. record { begin = h.begin; most = h.most; runs = h.runs; rise = h.rise };
      }) c
      (λ g. rw (subject_is in_force T s c k g).0 (own_sleeps c (granted in_force T s c k g)))
      (λ no. sleeps_still (λ z. no (granted_at in_force T s A c k _ lt (λ q. impossible cc) refl z).0) refl refl)

  -- the sections of any job
  step_opens : (r : ℕ) → Opens T s k r (outcome (ruling in_force T s c) c) ((step in_force T s c).state.entry k)
  step_opens r =
      step_each in_force T s k {Q = Opens T s k r (outcome (ruling in_force T s c) c)}
      (record { wakes = λ e w h. record { kept = h.kept; more = h.more }; starts = λ e h. record { kept = h.kept; more = h.more } }) c
      (λ g. rw (subject_is in_force T s c k g).0 (own_opens r c (granted in_force T s c k g)))
      (λ no. opens_still (λ z. no (granted_at in_force T s A c k _ lt (λ q. impossible cc) refl z).0) refl)

-- ---- along the calls

module _ {T : Table} (A : Accepted T) (calls : ℕ → Call) (i : ℕ) (lt : i < T.size) where
  -- the sleeps made, after k calls
  abbrev sleeps_at : ℕ → ℕ
  sleeps_at k = ((after in_force T calls k).entry i).sleeps

  -- the sections of r opened, after k calls
  abbrev opened_at : ℕ → ℕ → ℕ
  opened_at r k = ((after in_force T calls k).entry i).opened r

  -- what the call k does to the sleeps
  sleeping : (k : ℕ) → Sleeps T (after in_force T calls k) i (event in_force T calls k) ((after in_force T calls (suc k)).entry i)
  unfolding after
  sleeping k = step_sleeps A (after in_force T calls k) (calls k) i lt

  -- and to the sections
  opening : (k r : ℕ) → Opens T (after in_force T calls k) i r (event in_force T calls k) ((after in_force T calls (suc k)).entry i)
  unfolding after
  opening k = step_opens A (after in_force T calls k) (calls k) i lt

  -- sleeps are X at most
  pub sleeps_most : (k : ℕ) → sleeps_at k ≤ (T.task i).most
  unfolding after
  sleeps_most zero = omega arith
  sleeps_most (suc k) = (sleeping k).most (sleeps_most k)

  -- and begin at 0
  pub sleeps_none : (a : ℕ) → event in_force T calls a ≡ released (priority T i) → sleeps_at (suc a) ≡ 0
  sleeps_none a e = (sleeping a).begin e

  -- while a job is there its sleeps don't fall
  pub sleeps_rise : (a j k : ℕ) → Has (event in_force T calls) (priority T i) a k → a < j → j ≤ k → sleeps_at j ≤ sleeps_at k
  sleeps_rise a j k h lo le = counting.sleeps_rise (run A calls) j k i i h lo le lt refl lt refl

  -- where it was awake and is asleep they rose
  pub sleeps_up : (a j k : ℕ) → Has (event in_force T calls) (priority T i) a k → a < j → j ≤ k
      → Awake ((after in_force T calls j).entry i).status → ((after in_force T calls k).entry i).status ≡ asleep → sleeps_at j < sleeps_at k
  sleeps_up a j zero h lo le w z = absurd (omega arith)
  sleeps_up a j (suc k) h lo le w z = go (dec_le j k) (λ g d. sleeps_up a j k g lo d w)
    where
      go : Dec (j ≤ k) → (Has (event in_force T calls) (priority T i) a k → j ≤ k → ((after in_force T calls k).entry i).status ≡ asleep
          → sleeps_at j < sleeps_at k) → sleeps_at j < sleeps_at (suc k)
      go (yes d) more =
          let g = counting.has_until {j = k} h (omega arith) (omega arith) in
          ⊎_elim
          (λ y. omega (arith, sleeps_rise a j k g lo d, (sleeping k).rise y z))
          (λ y. omega (arith, more g d y, sleeps_rise a k (suc k) h (omega arith) (omega arith)))
          (awake_or_asleep ((after in_force T calls k).entry i).status (there_live A calls i a k lt g))
      go (no d) more =
          let q : j ≡ suc k = omega arith in absurd (subst Awake (ap (λ x. ((after in_force T calls x).entry i).status) q ∙ z) w)

  -- and where they rose it ran between
  pub ran_between : (j k : ℕ) → j ≤ k → sleeps_at j < sleeps_at k
      → (l : ℕ) × (j ≤ l) × (l < k) × (running in_force T (after in_force T calls l).entry ≡ at i)
  ran_between j zero le h = let q : j ≡ 0 = omega arith in absurd (omega (arith, ap sleeps_at q))
  ran_between j (suc k) le h = go (dec_le j k) (ran_between j k)
    where
      go : Dec (j ≤ k)
          → (j ≤ k → sleeps_at j < sleeps_at k → (l : ℕ) × (j ≤ l) × (l < k) × (running in_force T (after in_force T calls l).entry ≡ at i))
          → (l : ℕ) × (j ≤ l) × (l < suc k) × (running in_force T (after in_force T calls l).entry ≡ at i)
      go (yes d) more =
          ⊎_elim
          (λ y. let w = more d (omega (arith, y)) in (w.0, w.1, omega (arith, w.2), w.3))
          (λ y. (k, d, omega arith, y))
          (sleeping k).runs
      go (no d) more = let q : j ≡ suc k = omega arith in absurd (omega (arith, ap sleeps_at q))

  -- a lock finds fewer than N sections opened
  pub opened_below : (o r : ℕ) → event in_force T calls o ≡ opened (priority T i) r → opened_at r o < (T.task i).uses r
  opened_below o r e = ((opening o r).more e).0

  -- of two locks by one job the later finds more
  pub opened_more : (r o u : ℕ) → o < u → ((b : ℕ) → o < b → b < u → event in_force T calls b ≡ released (priority T i) → ⊥)
      → event in_force T calls o ≡ opened (priority T i) r → opened_at r o < opened_at r u
  opened_more r o zero l h e = absurd (omega arith)
  opened_more r o (suc u) l h e = go (ℕ_discrete o u) (λ d. opened_more r o u d (λ b p q. h b p (omega arith)) e)
    where
      go : Dec (o ≡ u) → (o < u → opened_at r o < opened_at r u) → opened_at r o < opened_at r (suc u)
      go (yes q) more = omega (arith, ((opening o r).more e).1, ap (λ x. opened_at r (suc x)) q)
      go (no n) more = omega (arith, more (omega arith), (opening u r).kept (h u (omega arith) (omega arith)))
