-- Who runs in a state where a task needs the processor, without a word of time. For the task at i, an obstacle is a task whose setting reaches its
-- priority; a low section is an open one of a lower task whose ceiling reaches it.
use Prim.Native.Nat.{ℕ, ◌≤◌, ◌<◌}
use mathlib.Core.Path.{◌≡◌, refl, ap, subst}
use mathlib.Core.Logic.{◌⊎◌, inl, inr, ⊎_elim}
use mathlib.Core.Bool.{true}
use native.Mathlib.Omega.{arith}
use native.Mathlib.Decide.{dec_lt}
use Rattle.searches.specs.Searches.{Place, nowhere, at}
use Rattle.searches.proofs.Testing.{impossible}
use Rattle.protocol.specs.Tasks.{Table, priority, setting}
use Rattle.protocol.specs.State.{asleep, Section, State}
use Rattle.protocol.specs.Running.{system_priority, in_force, running}
use Rattle.protocol.specs.Accepted.{Accepted}
use Rattle.protocol.specs.Idling.{BehindSleeper}
use Rattle.protocol.proofs.Chain.{In, low, high, chain_order}
use Rattle.protocol.proofs.Invariant.{Unfinished, Inv}
use Rattle.protocol.proofs.Runner.{lawful, setting_below_lem, priority_of, Runs, runs}
use Rattle.protocol.proofs.Lows.{Awake, awake_live, awake_or_asleep, free_above, lows, frees}
use Rattle.protocol.proofs.Idling.{idle_state}

-- An open section of a task below that at i, with a ceiling that reaches it.
pub record LowSection (T : Table) (s : State) (i : ℕ) (t : Section) : Type 0 where
  pub is_open : In t s.sections
  pub lower : low T t < priority T i
  pub reaches : priority T i ≤ high T t

-- The task at j is an obstacle of that at i, and has a job.
pub record Blocks (T : Table) (s : State) (i j : ℕ) : Type 0 where
  pub inside : j < T.size
  pub reaches : priority T i ≤ setting T j
  pub live : Unfinished (s.entry j)

-- The task at i is awake, or an obstacle of it has a job.
abbrev pub Needs : Table → State → ℕ → Type 0
Needs T s i = Awake (s.entry i).status ⊎ ((j : ℕ) × Blocks T s i j)

-- Who has the processor then: the task itself or a higher one; nobody need, since an obstacle sleeps; or the holder of a low section.
pub data Covered (T : Table) (s : State) (i : ℕ) : Type 0 where
  higher : (q : ℕ) → running in_force T s.entry ≡ at q → priority T i ≤ priority T q → Covered T s i
  sleeper : (j : ℕ) → Blocks T s i j → (s.entry j).status ≡ asleep → Covered T s i
  blocked : (q : ℕ) (t : Section) → running in_force T s.entry ≡ at q → LowSection T s i t → t.place ≡ q → Covered T s i

module _ {T : Table} (A : Accepted T) {s : State} (I : Inv in_force T s) where
  -- at most one low section is open
  pub one_open : (i : ℕ) (t u : Section) → LowSection T s i t → LowSection T s i u → t ≡ u
  one_open i t u x y = go (chain_order T 0 s.sections t u I.sound.chain x.is_open y.is_open)
    where
      go : (t ≡ u) ⊎ ((high T t < low T u) ⊎ (high T u < low T t)) → t ≡ u
      go (inl e) = e
      go (inr (inl lt)) = absurd (omega (arith, x.reaches, y.lower))
      go (inr (inr lt)) = absurd (omega (arith, y.reaches, x.lower))

  -- and none where the task runs
  pub run_free : (i : ℕ) (t : Section) → running in_force T s.entry ≡ at i → LowSection T s i t → ⊥
  run_free i t e x =
      let R : Runs in_force T s i = runs e in
      omega (arith, (I.sound.each i).gap R.stands t x.is_open x.lower, x.reaches)

  -- a task that locks is above the setting of every started job
  pub above_started : (q i : ℕ) → running in_force T s.entry ≡ at q → (s.entry q).held ≡ 0 → i < T.size → (s.entry i).started ≡ true
      → Unfinished (s.entry i) → setting T i < priority T q
  above_started q i e z lt b u = omega (arith, setting_below_lem T s.entry i lt b u, free_above lawful A I.sound (runs e) z)

  -- and of every unfinished one: if awake it is no higher, and if asleep it is started
  above_live : (q i : ℕ) → running in_force T s.entry ≡ at q → (s.entry q).held ≡ 0 → i < T.size → Unfinished (s.entry i)
      → setting T i < priority T q
  above_live q i e z lt u =
      ⊎_elim (λ a. omega (arith, frees lawful A I.sound (runs e) z i a, A.below i lt))
      (λ d. above_started q i e z lt ((I.sound.each i).dozed d) u) (awake_or_asleep (s.entry i).status u)

  -- where a task ends no obstacle of it has a job
  pub own_end : (i j : ℕ) → running in_force T s.entry ≡ at i → (s.entry i).held ≡ 0 → Blocks T s i j → ⊥
  own_end i j e z b = omega (arith, above_live i j e z b.inside b.live, b.reaches)

  -- where it needs the processor no lower task can lock
  pub no_lock : (q i : ℕ) → running in_force T s.entry ≡ at q → (s.entry q).held ≡ 0 → priority T q < priority T i → Needs T s i → ⊥
  no_lock q i e z lt (inl a) = omega (arith, frees lawful A I.sound (runs e) z i a)
  no_lock q i e z lt (inr w) = omega (arith, above_live q w.0 e z w.1.inside w.1.live, w.1.reaches)

  -- an awake job above the system priority, the task's own or a higher one, covers its need
  covers : (i m : ℕ) → Awake (s.entry m).status → system_priority T s.entry < priority T m → priority T i ≤ priority T m → Covered T s i
  covers i m a up le = go (running in_force T s.entry) refl
    where
      behind : BehindSleeper T s m → Covered T s i
      behind b =
          sleeper b.sleeper (record { inside = b.inside; reaches = omega (arith, b.reaches); live = λ n. impossible (cc (b.sleeps, n)) })
          b.sleeps

      by : (q : ℕ) → running in_force T s.entry ≡ at q → Dec (priority T q < priority T i) → Covered T s i
      by q e (no ge) = higher q e (omega arith)
      by q e (yes lt) =
          let l = lows lawful A I.sound (runs e) m a up (omega arith) in
          blocked q l.last e
          (record { is_open = l.is_open; lower = omega (arith, ap (priority T) l.held); reaches = omega (arith, l.reaches) })
          l.held

      go : (p : Place) → running in_force T s.entry ≡ p → Covered T s i
      go nowhere e =
          ⊎_elim (λ z. absurd (subst Awake z a)) (λ w. behind w.1) ((idle_state A I.sound e).held_back m (awake_live (s.entry m).status a))
      go (at q) e = by q e (dec_lt (priority T q) (priority T i))

  -- where it needs the processor, that is covered
  pub cover : (i : ℕ) → i < T.size → Needs T s i → Covered T s i
  cover i lt n = go (dec_lt (system_priority T s.entry) (priority T i)) n
    where
      obstacle : (j : ℕ) → Blocks T s i j → system_priority T s.entry < priority T j → Covered T s i
      obstacle j b up =
          ⊎_elim (λ a. covers i j a up (omega (arith, b.reaches, A.below j b.inside))) (λ d. sleeper j b d)
          (awake_or_asleep (s.entry j).status b.live)

      go : Dec (system_priority T s.entry < priority T i) → Needs T s i → Covered T s i
      go (yes up) (inl a) = covers i i a up (omega arith)
      go (yes up) (inr w) = obstacle w.0 w.1 (omega (arith, w.1.reaches, A.below w.0 w.1.inside))
      go (no ge) n =
          let w = priority_of T s.entry (omega (arith, A.below i lt)) in
          obstacle w.0 (record { inside = w.1; reaches = omega (arith, w.4); live = w.3 }) (omega (arith, w.4, A.below w.0 w.1))
