-- Jobs along the calls: an unfinished job was released and has not ended, and a task has one job at a time.
use Prim.Native.Nat.{ℕ, zero, suc, ◌<◌}
use mathlib.Core.Path.{◌≡◌, refl, sym, ap, subst, ◌∙◌}
use mathlib.Core.Bool.{Bool, true, false}
use native.Mathlib.Omega.{arith}
use native.Mathlib.Decide.{ℕ_discrete}
use Rattle.searches.specs.Searches.{at}
use Rattle.searches.proofs.Testing.{impossible}
use Rattle.protocol.specs.Tasks.{Table, priority}
use Rattle.protocol.specs.State.{Status, none, ready, waiting, asleep, Entry, State}
use Rattle.protocol.specs.Running.{system_ceiling, in_force, running}
use Rattle.protocol.specs.Checks.{Call, release, resume, lock, unlock, suspend, complete}
use Rattle.protocol.specs.Acting.{own}
use Rattle.protocol.specs.Accepted.{Accepted}
use Rattle.protocol.specs.Trace.{Event, released, ended, accepted, after, event, Has}
use Rattle.protocol.proofs.Invariant.{Unfinished, Inv}
use Rattle.protocol.proofs.Runner.{lawful, Runs, runs}
use Rattle.protocol.proofs.Granted.{Granted, granted}
use Rattle.protocol.proofs.Steps.{step_each, granted_at, subject_is}
use Rattle.protocol.proofs.Called.{Called, called}
use Rattle.protocol.proofs.Runs.{Run, inv, calls_run}
use Rattle.protocol.proofs.Counting.{has_until, has_job}
use Rattle.protocol.proofs.Listed.{is, is_itself, is_so}

-- whether there is no job
pub no_job : (e : Entry) → Dec (e.status ≡ none)
no_job e = go e.status
  where
    go : (x : Status) → Dec (x ≡ none)
    go none = yes refl
    go ready = no (λ z. impossible cc)
    go waiting = no (λ z. impossible cc)
    go asleep = no (λ z. impossible cc)

-- whether an event is the end of p's job
pub is_ended : (e : Event) (p : ℕ) → Dec (e ≡ ended p)
is_ended e p = go (is e (ended p)) refl
  where
    go : (b : Bool) → is e (ended p) ≡ b → Dec (e ≡ ended p)
    go true t = yes (is_so e (ended p) t)
    go false t = no (λ q. let u : is e (ended p) ≡ true = rw q (is_itself (ended p)) in impossible cc)

-- a call that releases is a release
by_release : (c : Call) (p : ℕ) → accepted c ≡ released p → c ≡ release p
by_release (release q) p e = cc
by_release (resume q n) p e = absurd (impossible cc)
by_release (lock q n r) p e = absurd (impossible cc)
by_release (unlock q n r) p e = absurd (impossible cc)
by_release (suspend q n) p e = absurd (impossible cc)
by_release (complete q n) p e = absurd (impossible cc)

-- and one that ends a job is a complete
by_complete : (c : Call) (p : ℕ) → accepted c ≡ ended p → (n : ℕ) × (c ≡ complete p n)
by_complete (release q) p e = absurd (impossible cc)
by_complete (resume q n) p e = absurd (impossible cc)
by_complete (lock q n r) p e = absurd (impossible cc)
by_complete (unlock q n r) p e = absurd (impossible cc)
by_complete (suspend q n) p e = absurd (impossible cc)
by_complete (complete q n) p e = (n, cc)

module _ {T : Table} (A : Accepted T) (calls : ℕ → Call) where
  -- the calls make a run
  pub run : Run in_force (λ k. T) (after in_force T calls) (event in_force T calls)
  run = calls_run lawful A calls

  -- the invariant holds after any of them
  pub holds_at : (k : ℕ) → Inv in_force T (after in_force T calls k)
  holds_at = inv run

  -- what the call k does
  pub next : (k : ℕ) → Called in_force T (after in_force T calls k) (event in_force T calls k) (after in_force T calls (suc k))
  unfolding after
  next k = called lawful A (holds_at k) (calls k)

  -- a call after which a task has a job that it hadn't is its release
  appears : (k i : ℕ) → ((after in_force T calls k).entry i).status ≡ none → Unfinished ((after in_force T calls (suc k)).entry i)
      → event in_force T calls k ≡ released (priority T i)
  unfolding after
  appears k i z =
      let s = after in_force T calls k in
      step_each in_force T s i {Q = λ e. Unfinished e → event in_force T calls k ≡ released (priority T i)}
      (record { wakes = λ e w q u. q (λ n. impossible (cc (w, n))); starts = λ e q. q }) (calls k)
      (λ g u. (subject_is in_force T s (calls k) i g).0 ∙ go s z (calls k) (granted in_force T s (calls k) i g) u)
      (λ elsewhere u. absurd (u z))
    where
      go : (s : State) → (s.entry i).status ≡ none → (c : Call) → Granted in_force T s c i
          → Unfinished (own T (system_ceiling T s) s.entry c i) → accepted c ≡ released (priority T i)
      go s z (release p) g u = ap released (sym g.0)
      go s z (resume p n) g u = absurd (impossible (cc (g.2, z)))
      go s z (lock p n r) g u = absurd (u z)
      go s z (unlock p n r) g u = absurd (u z)
      go s z (suspend p n) g u = absurd (let R : Runs in_force T s i = runs g.0.runs in impossible (cc (R.stands, z)))
      go s z (complete p n) g u = absurd (u refl)

  -- a task without a job has none after a call that doesn't release it
  pub stays_none : (k i : ℕ) → ((after in_force T calls k).entry i).status ≡ none → (event in_force T calls k ≡ released (priority T i) → ⊥)
      → ((after in_force T calls (suc k)).entry i).status ≡ none
  stays_none k i z n = go (no_job ((after in_force T calls (suc k)).entry i))
    where
      go : Dec (((after in_force T calls (suc k)).entry i).status ≡ none) → ((after in_force T calls (suc k)).entry i).status ≡ none
      go (yes e) = e
      go (no u) = absurd (n (appears k i z u))

  -- a release finds no job
  pub before_release : (k i : ℕ) → i < T.size → event in_force T calls k ≡ released (priority T i) → ((after in_force T calls k).entry i).status ≡ none
  before_release k i lt e =
      let s = after in_force T calls k in
      let w = granted_at in_force T s A (calls k) i (released (priority T i)) lt (λ z. impossible cc) refl e in
      (subst (λ c. Granted in_force T s c i) (by_release (calls k) (priority T i) w.1) (granted in_force T s (calls k) i w.0)).2

  -- a job that ends runs and holds nothing
  pub at_end : (k i : ℕ) → i < T.size → event in_force T calls k ≡ ended (priority T i)
      → (running in_force T (after in_force T calls k).entry ≡ at i) × (((after in_force T calls k).entry i).held ≡ 0)
  at_end k i lt e =
      let s = after in_force T calls k in
      let w = granted_at in_force T s A (calls k) i (ended (priority T i)) lt (λ z. impossible cc) refl e in
      let g = subst (λ c. Granted in_force T s c i) (by_complete (calls k) (priority T i) w.1).1 (granted in_force T s (calls k) i w.0) in
      (g.0.runs, g.1)

  -- and is gone then
  after_end : (k i : ℕ) → i < T.size → event in_force T calls k ≡ ended (priority T i) → ((after in_force T calls (suc k)).entry i).status ≡ none
  unfolding after
  after_end k i lt e =
      let s = after in_force T calls k in
      let w = granted_at in_force T s A (calls k) i (ended (priority T i)) lt (λ z. impossible cc) refl e in
      step_each in_force T s i {Q = λ x. x.status ≡ none}
      (record { wakes = λ x y z. absurd (impossible (cc (y, z))); starts = λ x z. z }) (calls k)
      (λ g. ap (λ c. (own T (system_ceiling T s) s.entry c i).status) (by_complete (calls k) (priority T i) w.1).1)
      (λ elsewhere. absurd (elsewhere w.0))

  -- After k calls the task at the place i has the job that the call a released.
  abbrev pub There : ℕ → ℕ → ℕ → Type 0
  There i a k = Has (event in_force T calls) (priority T i) a k

  -- that job is unfinished
  pub there_live : (i a k : ℕ) → i < T.size → There i a k → Unfinished ((after in_force T calls k).entry i)
  there_live i a k lt h =
      let y = has_job run k h in
      subst (λ x. Unfinished ((after in_force T calls k).entry x)) (A.unique y.0 i y.1 lt y.2) y.3

  -- and an unfinished job was released
  pub live_there : (i k : ℕ) → i < T.size → Unfinished ((after in_force T calls k).entry i) → (a : ℕ) × There i a k
  unfolding after
  live_there i zero lt u = absurd (u refl)
  live_there i (suc k) lt u = go (no_job ((after in_force T calls k).entry i)) (live_there i k lt)
    where
      goes_on : {a : ℕ} → There i a k → There i a (suc k)
      goes_on {a} h = record { began = h.began; made = omega (arith, h.made); going = λ j lo hi e. by j lo hi e (ℕ_discrete j k) }
        where
          by : (j : ℕ) → a < j → j < suc k → event in_force T calls j ≡ ended (priority T i) → Dec (j ≡ k) → ⊥
          by j lo hi e (yes q) = u (after_end k i lt (subst (λ x. event in_force T calls x ≡ ended (priority T i)) q e))
          by j lo hi e (no q) = h.going j lo (omega arith) e

      go : Dec (((after in_force T calls k).entry i).status ≡ none) → (Unfinished ((after in_force T calls k).entry i) → (a : ℕ) × There i a k)
          → (a : ℕ) × There i a (suc k)
      go (yes z) more = (k, record { began = appears k i z u; made = omega arith; going = λ j lo hi e. omega arith })
      go (no v) more = let w = more v in (w.0, goes_on w.1)

  -- no job is released while one is there
  pub no_second : (i a b k : ℕ) → i < T.size → There i a k → event in_force T calls b ≡ released (priority T i) → a < b → b < k → ⊥
  no_second i a b k lt h e lo hi = there_live i a b lt (has_until h lo (omega arith)) (before_release b i lt e)
