-- How far a call of the machine reaches: places within the table, resources that have a use, and at most 16 sections.
use mathlib.Core.Path.{◌≡◌, refl, ap, ◌∙◌}
use mathlib.Core.Bool.{Bool, true, false}
use mathlib.Core.List.{List, [], ◌∷◌}
use Prim.Native.Nat.{ℕ, suc, ◌≤◌, ◌<◌}
use native.Mathlib.Omega.{arith}
use lib.Dec.{eqb}
use lib.ListN.{length, length-append}
use borrow.Author.Tests.{ne_eqb, le-ltb}
use Rattle.protocol.specs.Tasks.{Table}
use Rattle.searches.specs.Searches.{Place, nowhere, at}
use Rattle.protocol.specs.State.{Entry, Section, State}
use Rattle.protocol.specs.Running.{system_ceiling, Rule, running}
use Rattle.protocol.specs.Checks.{Call, release, resume, lock, unlock, suspend, complete, Ruling, refuse, grant, ruling}
use Rattle.protocol.specs.Acting.{put, begun, own, section, same, has, skip, without, closed, act, start}
use Rattle.protocol.specs.Step.{answer, step}
use Rattle.protocol.proofs.Runner.{runs}
use Rattle.protocol.proofs.Granted.{Granted, granted}
use Rattle.protocol.proofs.Effects.{start_sections}
use Rattle.protocol.proofs.Steps.{step_each}

-- ---- places

-- another place's entry stays
put_other : (f : ℕ → Entry) (i : ℕ) (e : Entry) (k : ℕ) → (k ≡ i → ⊥) → put f i e k ≡ f k
put_other f i e k ne = rw (ne_eqb k i ne)

module _ (E : Rule) (T : Table) (s : State) where
  -- a call is granted to a place of the table
  granted_inside : (c : Call) (i : ℕ) → Granted E T s c i → i < T.size
  granted_inside (release p) i g = g.1
  granted_inside (resume p n) i g = g.1
  granted_inside (lock p n r) i g = (runs {s = s} g.0.runs).inside
  granted_inside (unlock p n r) i g = (runs {s = s} g.0.runs).inside
  granted_inside (suspend p n) i g = (runs {s = s} g.0.runs).inside
  granted_inside (complete p n) i g = (runs {s = s} g.0.runs).inside

  module _ (k : ℕ) (past : T.size ≤ k) where
    -- past the table nobody is started
    start_past : (t : State) (p : Place) → running E T t.entry ≡ p → (start p t).entry k ≡ t.entry k
    start_past t nowhere e = refl
    start_past t (at j) e = put_other t.entry j (begun (t.entry j)) k (λ q. omega (arith, (runs {E = E} {T = T} {s = t} e).inside))

    -- nor woken
    closed_past : (b : Bool) (u : Section) (t : State) → (closed b T u t).entry k ≡ t.entry k
    closed_past true u t = rw (le-ltb k T.size past)
    closed_past false u t = refl

    -- nor changed
    act_past : (c : Call) (i : ℕ) → i < T.size → (act T s c i).entry k ≡ s.entry k
    act_past (release p) i lt = put_other s.entry i _ k (λ q. omega arith)
    act_past (resume p n) i lt = put_other s.entry i _ k (λ q. omega arith)
    act_past (lock p n r) i lt = put_other s.entry i _ k (λ q. omega arith)
    act_past (unlock p n r) i lt = closed_past (has (section i r) s.sections) (section i r) _ ∙ put_other s.entry i _ k (λ q. omega arith)
    act_past (suspend p n) i lt = put_other s.entry i _ k (λ q. omega arith)
    act_past (complete p n) i lt = put_other s.entry i _ k (λ q. omega arith)

    -- so the entries past the table stay
    pub step_past : (c : Call) → (step E T s c).state.entry k ≡ s.entry k
    unfolding step
    step_past c = go (ruling E T s c) refl
      where
        go : (q : Ruling) → ruling E T s c ≡ q → (answer E T s c q).state.entry k ≡ s.entry k
        go (refuse n) e = refl
        go (grant i) e = start_past (act T s c i) (running E T (act T s c i).entry) refl ∙ act_past c i (granted_inside c i (granted E T s c i e))

-- ---- counts

-- the count of a resource without uses stays 0
pub step_unused : (E : Rule) (T : Table) (s : State) (r : ℕ) → ((i : ℕ) → (T.task i).uses r ≡ 0) → ((i : ℕ) → (s.entry i).opened r ≡ 0)
    → (c : Call) (k : ℕ) → ((step E T s c).state.entry k).opened r ≡ 0
step_unused E T s r unused none c k =
    step_each E T s k {Q = λ e. e.opened r ≡ 0} (record { wakes = λ e w h. h; starts = λ e h. h }) c
    (λ g. own_none c (granted E T s c k g)) (λ no. none k)
  where
    own_none : (d : Call) → Granted E T s d k → (own T (system_ceiling T s) s.entry d k).opened r ≡ 0
    own_none (release p) g = refl
    own_none (resume p n) g = none k
    own_none (lock p n q) g =
        let ne : eqb r q ≡ false = ne_eqb r q (λ e. let z = ap (T.task k).uses e in omega (arith, z, unused k, g.2)) in
        rw ne (omega (arith, none k))
    own_none (unlock p n q) g = none k
    own_none (suspend p n) g = none k
    own_none (complete p n) g = none k

-- ---- sections

-- without one there are no more
without_shorter : (u : Section) (l : List Section) → length (without u l) ≤ length l
unfolding without
without_shorter u [] = omega arith
without_shorter u (t ∷ l) = go (same u t) (without_shorter u l)
  where
    go : (b : Bool) → length (without u l) ≤ length l → length (skip b l (t ∷ without u l)) ≤ suc (length l)
    go true h = omega arith
    go false h = omega arith

module _ (E : Rule) (T : Table) (s : State) where
  -- closing makes them no more
  closed_few : (b : Bool) (u : Section) (t : State) → length t.sections ≤ 16 → length (closed b T u t).sections ≤ 16
  closed_few true u t h = omega (arith, without_shorter u t.sections)
  closed_few false u t h = h

  -- a granted call leaves at most 16
  act_few : length s.sections ≤ 16 → (c : Call) (i : ℕ) → Granted E T s c i → length (act T s c i).sections ≤ 16
  act_few h (release p) i g = h
  act_few h (resume p n) i g = h
  act_few h (lock p n r) i g = simp length-append (omega (arith, g.3))
  act_few h (unlock p n r) i g = closed_few (has (section i r) s.sections) (section i r) _ h
  act_few h (suspend p n) i g = h
  act_few h (complete p n) i g = h

  -- and so does any call, where there were no more
  pub step_few : length s.sections ≤ 16 → (c : Call) → length (step E T s c).state.sections ≤ 16
  unfolding step
  step_few h c = go (ruling E T s c) refl
    where
      go : (q : Ruling) → ruling E T s c ≡ q → length (answer E T s c q).state.sections ≤ 16
      go (refuse n) e = h
      go (grant i) e =
          rw (start_sections (running E T (act T s c i).entry) (act T s c i)) (act_few h c i (granted E T s c i e))
