-- What one call does to the open sections.
use mathlib.Core.Path.{◌≡◌, refl, sym, ap, ◌∙◌}
use mathlib.Core.List.{[], ◌∷◌, ◌++◌}
use Prim.Native.Nat.{ℕ, ◌<◌}
use Rattle.searches.specs.Searches.{Place, nowhere, at}
use Rattle.protocol.specs.Tasks.{Table, priority}
use Rattle.protocol.specs.State.{State}
use Rattle.protocol.specs.Running.{Rule, running}
use Rattle.protocol.specs.Checks.{Call, release, resume, lock, unlock, suspend, complete, Ruling, refuse, grant, ruling}
use Rattle.protocol.specs.Acting.{section, act, start, settle}
use Rattle.protocol.specs.Step.{answer, step}
use Rattle.protocol.specs.Accepted.{Accepted, Lawful}
use Rattle.protocol.specs.Trace.{Event, nothing, released, resumed, opened, closed, slept, ended, accepted, outcome}
use Rattle.protocol.proofs.Chain.{in_has}
use Rattle.protocol.proofs.Invariant.{Inv}
use Rattle.protocol.proofs.Granted.{Granted, granted}
use Rattle.protocol.proofs.Closes.{unlock_in, unlock_last}

-- The running job, which has the priority p, opens a section of r: it held nothing, and the section stands last.
pub record Opening (E : Rule) (T : Table) (s t : State) (p r : ℕ) : Type 0 where
  pub by : ℕ
  pub names : priority T by ≡ p
  pub runs : running E T s.entry ≡ at by
  pub free : (s.entry by).held ≡ 0
  pub uses : 0 < (T.task by).uses r
  pub adds : t.sections ≡ s.sections ++ (section by r ∷ [])

-- The job of priority p closes its section of r, which stood last.
pub record Closing (T : Table) (s t : State) (p r : ℕ) : Type 0 where
  pub by : ℕ
  pub names : priority T by ≡ p
  pub takes : s.sections ≡ t.sections ++ (section by r ∷ [])

-- What each event says of the open sections before and after.
abbrev pub Effect : Rule → Table → State → State → Event → Type 0
Effect E T s t nothing = t.sections ≡ s.sections
Effect E T s t (released p) = t.sections ≡ s.sections
Effect E T s t (resumed p) = t.sections ≡ s.sections
Effect E T s t (opened p r) = Opening E T s t p r
Effect E T s t (closed p r) = Closing T s t p r
Effect E T s t (slept p) = t.sections ≡ s.sections
Effect E T s t (ended p) = t.sections ≡ s.sections

-- starting a job moves no section
pub start_sections : (p : Place) (s : State) → (start p s).sections ≡ s.sections
start_sections nowhere s = refl
start_sections (at i) s = refl

module _ {E : Rule} (L : Lawful E) {T : Table} (A : Accepted T) {s : State} (I : Inv E T s) where
  -- what the call itself does
  act_effect : (c : Call) (i : ℕ) → Granted E T s c i → Effect E T s (act T s c i) (accepted c)
  act_effect (release p) i g = refl
  act_effect (resume p n) i g = refl
  act_effect (lock p n r) i g =
      record { by = i; names = g.0.names.priority_is; runs = g.0.runs; free = g.1; uses = g.2; adds = refl }
  act_effect (unlock p n r) i g = record {
    by = i;
    names = g.0.names.priority_is;
    takes = rw (in_has (section i r) s.sections (unlock_in L A I p n r i g)) (unlock_last L A I p n r i g);
  }
  act_effect (suspend p n) i g = refl
  act_effect (complete p n) i g = refl

  -- an effect turns on the sections alone
  same_effect : (e : Event) (t u : State) → u.sections ≡ t.sections → Effect E T s t e → Effect E T s u e
  same_effect nothing t u q h = q ∙ h
  same_effect (released p) t u q h = q ∙ h
  same_effect (resumed p) t u q h = q ∙ h
  same_effect (opened p r) t u q h =
      record { by = h.by; names = h.names; runs = h.runs; free = h.free; uses = h.uses; adds = q ∙ h.adds }
  same_effect (closed p r) t u q h =
      record { by = h.by; names = h.names; takes = h.takes ∙ ap (λ l. l ++ (section h.by r ∷ [])) (sym q) }
  same_effect (slept p) t u q h = q ∙ h
  same_effect (ended p) t u q h = q ∙ h

  -- what a call does, accepted or refused
  pub effect : (c : Call) → Effect E T s (step E T s c).state (outcome (ruling E T s c) c)
  unfolding step
  effect c = go (ruling E T s c) refl
    where
      go : (r : Ruling) → ruling E T s c ≡ r → Effect E T s (answer E T s c r).state (outcome r c)
      go (refuse n) e = refl
      go (grant i) e =
          same_effect (accepted c) (act T s c i) (settle E T (act T s c i)) (start_sections (running E T (act T s c i).entry) (act T s c i))
          (act_effect c i (granted E T s c i e))
