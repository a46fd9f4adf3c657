-- What one call does to the entry at one place, and whose place an event names.
use mathlib.Core.Path.{◌≡◌, refl, sym, ap, subst, ◌∙◌}
use mathlib.Core.Bool.{Bool, true, false}
use Prim.Native.Nat.{ℕ, ◌<◌}
use Rattle.searches.specs.Searches.{Place, nowhere, at}
use Rattle.searches.proofs.Testing.{impossible}
use Rattle.protocol.specs.Tasks.{Table, priority}
use Rattle.protocol.specs.State.{ready, waiting, Entry, Section, State}
use Rattle.protocol.specs.Running.{top, system_ceiling, Rule, running}
use Rattle.protocol.specs.Checks.{Call, release, resume, lock, unlock, suspend, complete, Ruling, refuse, grant, ruling}
use Rattle.protocol.specs.Acting.{put, become, begun, own, section, has, without, closed, act, start}
use Rattle.protocol.specs.Step.{answer, step}
use Rattle.protocol.specs.Accepted.{Accepted}
use Rattle.protocol.specs.Trace.{Event, accepted, outcome}
use Rattle.protocol.proofs.Entries.{put_each, woken_each}
use Rattle.protocol.proofs.Runner.{Runs, runs}
use Rattle.protocol.proofs.Granted.{Caller, Granted, granted}

-- ---- one entry

-- A property of entries that waking and starting keep.
pub record Steady (Q : Entry → Type 0) : Type 0 where
  pub wakes : (e : Entry) → e.status ≡ waiting → Q e → Q (become ready e)
  pub starts : (e : Entry) → Q e → Q (begun e)

module _ (E : Rule) (T : Table) (s : State) (k : ℕ) {Q : Entry → Type 0} (K : Steady Q) where
  -- starting keeps it
  start_each : (p : Place) (t : State) → Q (t.entry k) → Q ((start p t).entry k)
  start_each nowhere t h = h
  start_each (at i) t h =
      put_each Q t.entry i (begun (t.entry i)) k (λ e. K.starts (t.entry i) (subst (λ x. Q (t.entry x)) e h)) (λ ne. h)

  -- so does closing a section
  closed_each : (b : Bool) (u : Section) (t : State) → Q (t.entry k) → Q ((closed b T u t).entry k)
  closed_each true u t h = woken_each Q T (top T 0 (without u t.sections)) t.entry k (λ lt w up. K.wakes (t.entry k) w h) (λ stay. h)
  closed_each false u t h = h

  -- and all that a call does besides the job's own entry
  act_each : (c : Call) (i : ℕ) → Q (put s.entry i (own T (system_ceiling T s) s.entry c i) k) → Q ((act T s c i).entry k)
  act_each (release p) i h = h
  act_each (resume p n) i h = h
  act_each (lock p n r) i h = h
  act_each (unlock p n r) i h =
      closed_each (has (section i r) s.sections) (section i r)
      (record { entry = put s.entry i (own T (system_ceiling T s) s.entry (unlock p n r) i); sections = s.sections }) h
  act_each (suspend p n) i h = h
  act_each (complete p n) i h = h

  -- it holds after a call if it holds of the job's own entry, where the call is granted to this place, and of the old one where not
  pub step_each : (c : Call) → (ruling E T s c ≡ grant k → Q (own T (system_ceiling T s) s.entry c k))
      → ((ruling E T s c ≡ grant k → ⊥) → Q (s.entry k)) → Q ((step E T s c).state.entry k)
  unfolding step
  step_each c new old = go (ruling E T s c) refl
    where
      go : (r : Ruling) → ruling E T s c ≡ r → Q ((answer E T s c r).state.entry k)
      go (refuse n) e = old (λ f. impossible (cc (e, f)))
      go (grant i) e =
          start_each (running E T (act T s c i).entry) (act T s c i)
          (act_each c i
          (put_each Q s.entry i (own T (system_ceiling T s) s.entry c i) k
          (λ q. subst (λ x. Q (own T (system_ceiling T s) s.entry c x)) q (new (e ∙ ap grant (sym q))))
          (λ ne. old (λ f. ne (let g : grant i ≡ grant k = sym e ∙ f in cc g)))))

-- ---- whose event it is

-- the priority that an event names
abbrev pub subject : Event → ℕ
subject Event.nothing = 0
subject (Event.released p) = p
subject (Event.resumed p) = p
subject (Event.opened p r) = p
subject (Event.closed p r) = p
subject (Event.slept p) = p
subject (Event.ended p) = p

module _ (E : Rule) (T : Table) (s : State) where
  -- the running job is at a place of the table
  caller_at : {p n i : ℕ} → Caller E T s p n i → (i < T.size) × (priority T i ≡ p)
  caller_at {i} c = let R : Runs E T s i = runs c.runs in (R.inside, c.names.priority_is)

  -- a call is granted to a place of the table, with the priority that it names
  granted_to : (c : Call) (i : ℕ) → Granted E T s c i → (i < T.size) × (priority T i ≡ subject (accepted c))
  granted_to (release p) i g = (g.1, g.0)
  granted_to (resume p n) i g = (g.1, g.0.priority_is)
  granted_to (lock p n r) i g = caller_at g.0
  granted_to (unlock p n r) i g = caller_at g.0
  granted_to (suspend p n) i g = caller_at g.0
  granted_to (complete p n) i g = caller_at g.0

  -- an event names a task of the table
  pub names_task : (c : Call) → (outcome (ruling E T s c) c ≡ Event.nothing → ⊥)
      → (i : ℕ) × (i < T.size) × (priority T i ≡ subject (outcome (ruling E T s c) c))
  names_task c some = go (ruling E T s c) refl some
    where
      go : (r : Ruling) → ruling E T s c ≡ r → (outcome r c ≡ Event.nothing → ⊥) → (i : ℕ) × (i < T.size) × (priority T i ≡ subject (outcome r c))
      go (refuse n) e some = absurd (some refl)
      go (grant i) e some = let w = granted_to c i (granted E T s c i e) in (i, w.0, w.1)

  -- and the call is granted to that task's place
  pub granted_at : Accepted T → (c : Call) (k : ℕ) (e : Event) → k < T.size → (e ≡ Event.nothing → ⊥) → subject e ≡ priority T k
      → outcome (ruling E T s c) c ≡ e → (ruling E T s c ≡ grant k) × (accepted c ≡ e)
  granted_at A c k e lt some q h = go (ruling E T s c) refl h
    where
      go : (r : Ruling) → ruling E T s c ≡ r → outcome r c ≡ e → (ruling E T s c ≡ grant k) × (accepted c ≡ e)
      go (refuse n) f h = absurd (some (sym h))
      go (grant i) f h =
          let w = granted_to c i (granted E T s c i f) in
          (f ∙ ap grant (A.unique i k w.0 lt (w.1 ∙ ap subject h ∙ q)), h)

  -- the other way round: a call granted to a place names its task
  pub subject_is : (c : Call) (k : ℕ) → ruling E T s c ≡ grant k
      → (outcome (ruling E T s c) c ≡ accepted c) × (priority T k ≡ subject (accepted c))
  subject_is c k g = (ap (λ r. outcome r c) g, (granted_to c k (granted E T s c k g)).1)
