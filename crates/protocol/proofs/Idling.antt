-- Under the rule in force nothing runs only where no section is open and each unfinished job sleeps or is held back by one that does.
use mathlib.Core.Path.{◌≡◌, refl, subst}
use mathlib.Core.Logic.{inl, inr, ⊎_elim}
use mathlib.Core.List.{List, [], ◌∷◌}
use mathlib.Core.Bool.{true, or-true}
use Prim.Native.Nat.{ℕ, ◌≤◌, ◌<◌}
use native.Mathlib.Omega.{arith}
use native.Mathlib.Decide.{dec_lt, ℕ_discrete}
use lib.Dec.{ltb}
use Rattle.searches.specs.Searches.{nowhere}
use Rattle.searches.proofs.Testing.{impossible}
use Rattle.searches.proofs.Searching.{Best, best_found}
use Rattle.protocol.specs.Tasks.{Table, priority}
use Rattle.protocol.specs.State.{Status, none, ready, waiting, asleep, Section, State, holds}
use Rattle.protocol.specs.Running.{system_priority, in_force, eligible, running}
use Rattle.protocol.specs.Acting.{section}
use Rattle.protocol.specs.Accepted.{Accepted}
use Rattle.protocol.specs.Idling.{BehindSleeper, Idle}
use Rattle.protocol.proofs.Chain.{In, chain_last}
use Rattle.protocol.proofs.Invariant.{Sound}
use Rattle.protocol.proofs.Runner.{lawful, priority_of, held_holds}
use Rattle.protocol.proofs.Lows.{Awake, awake_or_asleep, holder_inside, unheld}

module _ {T : Table} (A : Accepted T) {s : State} (S : Sound T s) (idle : running in_force T s.entry ≡ nowhere) where
  -- no ready job is eligible
  none_eligible : (i : ℕ) → i < T.size → (s.entry i).status ≡ ready
      → in_force (system_priority T s.entry) (priority T i) (holds (s.entry i)) ≡ true → ⊥
  unfolding running
  none_eligible i lt r e =
      let b = subst (Best (eligible in_force T s.entry) (priority T) T.size) idle (best_found (eligible in_force T s.entry) (priority T) T.size) in
      b i lt (rw r e)

  -- no section is open: its holder would be eligible
  no_open : (t : Section) → In t s.sections → ⊥
  no_open t o =
      none_eligible t.place (holder_inside A S t o) (S.holder t o).stands
      (rw (held_holds (s.entry t.place) (unheld A S t o)) (or-true (ltb (system_priority T s.entry) (priority T t.place))))

  empty : (l : List Section) → ((t : Section) → In t l → ⊥) → l ≡ []
  empty [] n = refl
  empty (t ∷ l) n = absurd (n t (inl refl))

  -- so no job has a held mark
  none_held : (i : ℕ) → (s.entry i).held ≡ 0
  none_held i = go (ℕ_discrete (s.entry i).held 0)
    where
      go : Dec ((s.entry i).held ≡ 0) → (s.entry i).held ≡ 0
      go (yes z) = z
      go (no ne) = absurd (no_open (section i (s.entry i).held) ((S.each i).mark ne))

  -- and none waits
  none_waits : (i : ℕ) → (s.entry i).status ≡ waiting → ⊥
  none_waits i w =
      ⊎_elim (λ z. omega (arith, (S.each i).waits w, z, A.below i ((S.each i).inside (λ n. impossible cc)))) (λ t. no_open t.0 t.1)
      (chain_last T 0 s.sections)

  -- so an awake job is ready
  awake_ready : (i : ℕ) → Awake (s.entry i).status → (s.entry i).status ≡ ready
  awake_ready i = go (s.entry i).status refl
    where
      go : (x : Status) → (s.entry i).status ≡ x → Awake x → x ≡ ready
      go none e a = absurd a
      go ready e a = refl
      go waiting e a = absurd (none_waits i e)
      go asleep e a = absurd a

  -- and not above the system priority
  awake_below : (i : ℕ) → i < T.size → Awake (s.entry i).status → priority T i ≤ system_priority T s.entry
  awake_below i lt a = go (dec_lt (system_priority T s.entry) (priority T i))
    where
      go : Dec (system_priority T s.entry < priority T i) → priority T i ≤ system_priority T s.entry
      go (yes up) = absurd (none_eligible i lt (awake_ready i a) (lawful.above (system_priority T s.entry) (priority T i) (holds (s.entry i)) up))
      go (no ge) = omega arith

  -- so it is behind a sleeper: the job whose setting is the system priority, which awake would not be above that
  behind : (i : ℕ) → i < T.size → Awake (s.entry i).status → BehindSleeper T s i
  behind i lt a =
      let low = awake_below i lt a in
      let w = priority_of T s.entry (omega (arith, low, A.below i lt)) in
      record {
        sleeper = w.0;
        inside = w.1;
        sleeps = ⊎_elim (λ b. absurd (omega (arith, awake_below w.0 w.1 b, A.below w.0 w.1, w.4))) (λ z. z)
            (awake_or_asleep (s.entry w.0).status w.3);
        reaches = omega (arith, low, w.4);
      }

  -- all that is known of a state in which nothing runs
  pub idle_state : Idle T s
  idle_state = record {
    none_open = empty s.sections no_open;
    none_holds = none_held;
    held_back = λ i u. ⊎_elim (λ a. inr (awake_ready i a, behind i ((S.each i).inside u) a)) (λ z. inl z) (awake_or_asleep (s.entry i).status u);
  }

-- where nothing runs and some job is unfinished, one sleeps
pub someone_sleeps : {T : Table} {s : State} → Idle T s → (i : ℕ) → ((s.entry i).status ≡ none → ⊥) → (j : ℕ) × ((s.entry j).status ≡ asleep)
someone_sleeps I i u = ⊎_elim (λ e. (i, e)) (λ w. (w.1.sleeper, w.1.sleeps)) (I.held_back i u)
