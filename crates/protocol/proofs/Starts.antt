-- Every call keeps the invariant: the job that runs after it is started in it, and still runs.
use mathlib.Core.Path.{◌≡◌, refl, sym, ap, subst, fun_ext, ◌∙◌}
use mathlib.Core.Bool.{Bool, true, false}
use Prim.Native.Nat.{ℕ, ◌≤◌, ◌<◌, max}
use native.Mathlib.Omega.{arith}
use native.Mathlib.Decide.{ℕ_discrete}
use Rattle.searches.specs.Searches.{Place, nowhere, at}
use Rattle.searches.proofs.Testing.{impossible}
use Rattle.protocol.specs.Tasks.{Table, priority, setting}
use Rattle.protocol.specs.State.{ready, State, holds}
use Rattle.protocol.specs.Running.{system_priority, Rule, running}
use Rattle.protocol.specs.Checks.{Call, release, resume, lock, unlock, suspend, complete, Ruling, refuse, grant, ruling}
use Rattle.protocol.specs.Acting.{put, begun, section, act, start, settle}
use Rattle.protocol.specs.Step.{answer, step}
use Rattle.protocol.specs.Accepted.{Accepted, Lawful}
use Rattle.protocol.proofs.Entries.{put_each}
use Rattle.protocol.proofs.Invariant.{Unfinished, Sound, Started, Inv}
use Rattle.protocol.proofs.Runner.{setting_below_lem, priority_below, Runs, runs}
use Rattle.protocol.proofs.Lows.{free_above}
use Rattle.protocol.proofs.Granted.{Granted, granted}
use Rattle.protocol.proofs.Keeps.{put_sound, release_sound, resume_sound, suspend_sound, complete_sound}
use Rattle.protocol.proofs.Opens.{lock_sound}
use Rattle.protocol.proofs.Closes.{unlock_sound}

-- ---- the running job started

module _ {E : Rule} (L : Lawful E) {T : Table} (A : Accepted T) {s : State} (S : Sound T s) (i : ℕ) (e : running E T s.entry ≡ at i) where
  -- the state with the job at i started
  abbrev begun_state : State
  begun_state = record { entry = put s.entry i (begun (s.entry i)); sections = s.sections }

  -- the job at i runs
  runner : Runs E T s i
  runner = runs e

  -- it is above the ceiling of any section that its setting reaches, since it is ready
  start_sound : Sound T begun_state
  start_sound =
      let F = S.each i in
      put_sound S i (begun (s.entry i))
      (record {
        inside = λ u. runner.inside;
        mark = F.mark;
        waits = F.waits;
        gap = F.gap;
        reach = λ b u t o le. F.gap runner.stands t o (omega (arith, A.below i runner.inside));
        dozed = λ b. refl;
        rested = λ u lt. refl;
      })
      (λ t o q.
      let H = S.holder t o in
      record { stands = runner.stands; started = refl; held = subst (λ k. (s.entry k).held ≡ t.resource) q H.held; uses = H.uses })

  -- the system priority rises to the setting of the job at most
  start_priority : system_priority T begun_state.entry ≤ max (system_priority T s.entry) (setting T i)
  start_priority =
      let m = max (system_priority T s.entry) (setting T i) in
      priority_below T begun_state.entry m
      (λ k lt.
      put_each (λ j. j.started ≡ true → Unfinished j → setting T k ≤ m) s.entry i (begun (s.entry i)) k
      (λ q b u. omega (arith, ap (setting T) q)) (λ ne b u. omega (arith, setting_below_lem T s.entry k lt b u)))

  -- a job that was started is left as it is
  begun_again : (s.entry i).started ≡ true → begun_state.entry ≡ s.entry
  begun_again b =
      fun_ext (λ x. put_each (λ j. j ≡ s.entry x) s.entry i (begun (s.entry i)) x (λ q. same ∙ ap s.entry (sym q)) (λ ne. refl))
    where
      same : begun (s.entry i) ≡ s.entry i
      same =
          let j = s.entry i in
          let d : true ≡ j.started = sym b in
          λ y. record { status = j.status; started = d y; sleeps = j.sleeps; opened = j.opened; held = j.held; next = j.next }

  -- a holder is started, so one that isn't holds nothing
  unstarted_free : (s.entry i).started ≡ false → (s.entry i).held ≡ 0
  unstarted_free b = go (ℕ_discrete (s.entry i).held 0)
    where
      go : Dec ((s.entry i).held ≡ 0) → (s.entry i).held ≡ 0
      go (yes z) = z
      go (no ne) = absurd (let H = (S.holder (section i (s.entry i).held) ((S.each i).mark ne)).started in impossible (cc (b, H)))

  -- the job that was started is the one that runs
  start_same : (k : ℕ) → running E T begun_state.entry ≡ at k → k ≡ i
  start_same k f = go (s.entry i).started refl
    where
      go : (b : Bool) → (s.entry i).started ≡ b → k ≡ i
      go true b = let q : running E T begun_state.entry ≡ at i = ap (running E T) (begun_again b) ∙ e in cc (f, q)
      go false b =
          let up : system_priority T s.entry < priority T i = free_above L A S runner (unstarted_free b) in
          let K : Runs E T begun_state k = runs f in
          let ge : priority T i ≤ priority T k = K.tops i runner.inside
          (put_each (λ j. j.status ≡ ready) s.entry i (begun (s.entry i)) i (λ d. runner.stands) (λ ne. absurd (ne refl)))
          (L.above (system_priority T begun_state.entry) (priority T i) (holds (begun_state.entry i))
          (omega (arith, start_priority, A.below i runner.inside))) in
          let rk : (s.entry k).status ≡ ready = put_each (λ j. j.status ≡ ready → (s.entry k).status ≡ ready) s.entry i (begun (s.entry i)) k
          (λ q h. subst (λ x. (s.entry x).status ≡ ready) (sym q) h) (λ ne h. h) K.stands in
          let le : priority T k ≤ priority T i = runner.tops k K.inside rk
          (L.above (system_priority T s.entry) (priority T k) (holds (s.entry k)) (omega arith)) in
          A.unique k i K.inside runner.inside (omega arith)

  -- so the running job is started
  start_runs : Started E T begun_state
  start_runs k f =
      put_each (λ j. j.started ≡ true) s.entry i (begun (s.entry i)) k (λ d. refl) (λ ne. absurd (ne (start_same k f)))

-- ---- any call

module _ {E : Rule} (L : Lawful E) {T : Table} (A : Accepted T) where
  -- what each call does keeps a state sound
  act_sound : {s : State} → Inv E T s → (c : Call) (i : ℕ) → Granted E T s c i → Sound T (act T s c i)
  act_sound I (release p) i g = release_sound I p i g
  act_sound I (resume p n) i g = resume_sound I p n i g
  act_sound I (lock p n r) i g = lock_sound L A I p n r i g
  act_sound I (unlock p n r) i g = unlock_sound L A I p n r i g
  act_sound I (suspend p n) i g = suspend_sound I A p n i g
  act_sound I (complete p n) i g = complete_sound I A p n i g

  -- starting the running job makes the invariant whole
  settle_inv : {s : State} → Sound T s → Inv E T (settle E T s)
  settle_inv {s} S = go (running E T s.entry) refl
    where
      go : (p : Place) → running E T s.entry ≡ p → Inv E T (start p s)
      go nowhere e = record { sound = S; started = λ i f. absurd (impossible (cc (e, f))) }
      go (at i) e = record { sound = start_sound L A S i e; started = start_runs L A S i e }

  -- every call, accepted or refused, keeps the invariant
  pub step_inv : {s : State} → Inv E T s → (c : Call) → Inv E T (step E T s c).state
  unfolding step
  step_inv {s} I c = go (ruling E T s c) refl
    where
      go : (r : Ruling) → ruling E T s c ≡ r → Inv E T (answer E T s c r).state
      go (refuse n) e = I
      go (grant i) e = settle_inv (act_sound I c i (granted E T s c i e))
