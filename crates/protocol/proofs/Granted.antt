-- What a granted call has passed, and so who is entitled to it.
use mathlib.Core.Path.{◌≡◌, refl}
use mathlib.Core.Bool.{Bool, true, false, not, ◌&&◌}
use Prim.Native.Nat.{ℕ, ◌<◌}
use lib.Dec.{ltb, eqb}
use lib.ListN.{length}
use borrow.Author.Tests.{ltb-true, eqb-true, not-true}
use Rattle.searches.specs.Searches.{Place, nowhere, at, first}
use Rattle.searches.proofs.Testing.{impossible, and_true}
use Rattle.searches.proofs.Searching.{first_found}
use Rattle.protocol.specs.Tasks.{Table, priority}
use Rattle.protocol.specs.State.{none, asleep, Entry, State, serial, holds, is_none, is_asleep}
use Rattle.protocol.specs.Running.{Rule, running}
use Rattle.protocol.specs.Fit.{fit}
use Rattle.protocol.specs.Checks.{Call, release, resume, lock, unlock, suspend, complete, Ruling, grant, demand, found, numbered, checks, ruling}
use Rattle.protocol.proofs.Testing.{none_is, asleep_is}
use Rattle.protocol.proofs.Runner.{free_held}

-- The job at the place i has the number p, n.
pub record Named (T : Table) (s : State) (p n i : ℕ) : Type 0 where
  pub priority_is : priority T i ≡ p
  pub serial_is : serial (s.entry i) ≡ n

-- It runs, and the call is under its number.
pub record Caller (E : Rule) (T : Table) (s : State) (p n i : ℕ) : Type 0 where
  pub names : Named T s p n i
  pub runs : running E T s.entry ≡ at i

-- What the checks leave of a call that is granted to the place i.
abbrev pub Granted : Rule → Table → State → Call → ℕ → Type 0
Granted E T s (release p) i = (priority T i ≡ p) × (i < T.size) × ((s.entry i).status ≡ none)
Granted E T s (resume p n) i = Named T s p n i × (i < T.size) × ((s.entry i).status ≡ asleep)
Granted E T s (lock p n r) i =
    Caller E T s p n i × ((s.entry i).held ≡ 0) × (0 < (T.task i).uses r) × (length s.sections < 16) × ((s.entry i).opened r < (T.task i).uses r)
Granted E T s (unlock p n r) i = Caller E T s p n i × ((s.entry i).held ≡ r) × ((s.entry i).held ≡ 0 → ⊥)
Granted E T s (suspend p n) i = Caller E T s p n i × ((s.entry i).held ≡ 0) × ((s.entry i).sleeps < (T.task i).most)
Granted E T s (complete p n) i = Caller E T s p n i × ((s.entry i).held ≡ 0)

-- a demand that grants was met
demand_met : (n : ℕ) (b : Bool) (r : Ruling) (i : ℕ) → demand n b r ≡ grant i → (b ≡ true) × (r ≡ grant i)
demand_met n true r i e = (refl, e)
demand_met n false r i e = absurd (impossible cc)

-- a search that grants found a place
found_some : (n : ℕ) (p : Place) (f : ℕ → Ruling) (i : ℕ) → found n p f ≡ grant i → (j : ℕ) × (p ≡ at j) × (f j ≡ grant i)
found_some n nowhere f i e = absurd (impossible cc)
found_some n (at j) f i e = (j, refl, e)

-- an entry that isn't free holds
holds_held : (e : Entry) → holds e ≡ true → e.held ≡ 0 → ⊥
holds_held e h z = let f : holds e ≡ false = rw z in impossible cc

module _ (E : Rule) (T : Table) (s : State) where
  -- the test of a number
  is_named : (p n i : ℕ) → numbered T s.entry p n i ≡ true → Named T s p n i
  is_named p n i t =
      let b = and_true (eqb (priority T i) p) _ t in
      record { priority_is = eqb-true _ _ b.0; serial_is = eqb-true _ _ b.1 }

  -- the first checks of the running job's calls
  by_running_lem : (p n i : ℕ) (f : ℕ → Ruling) → found 13 (running E T s.entry) (λ j. demand 13 (numbered T s.entry p n j) (f j)) ≡ grant i
      → (j : ℕ) × Caller E T s p n j × (f j ≡ grant i)
  by_running_lem p n i f e =
      let w = found_some 13 (running E T s.entry) _ i e in
      let d = demand_met 13 (numbered T s.entry p n w.0) _ i w.2 in
      (w.0, record { names = is_named p n w.0 d.0; runs = w.1 }, d.1)

  -- a test that nothing is held
  is_free : (i : ℕ) → not (holds (s.entry i)) ≡ true → (s.entry i).held ≡ 0
  is_free i e = free_held (s.entry i) (not-true (holds (s.entry i)) e)

  -- the checks of each call, in their order
  passed : (c : Call) (i : ℕ) → checks E T s c ≡ grant i → Granted E T s c i
  passed (release p) i e =
      let w = found_some 11 (first (λ k. eqb (priority T k) p) T.size) _ i e in
      let d = demand_met 12 (is_none (s.entry w.0).status) _ i w.2 in
      let q = first_found _ _ _ w.1 in
      let same : w.0 ≡ i = cc in
      rw (← same) (eqb-true _ _ q.1, q.0, none_is _ d.0)
  passed (resume p n) i e =
      let w = found_some 20 (first (λ k. is_asleep (s.entry k).status && numbered T s.entry p n k) T.size) _ i e in
      let q = first_found _ _ _ w.1 in
      let b = and_true (is_asleep (s.entry w.0).status) _ q.1 in
      let same : w.0 ≡ i = cc in
      rw (← same) (is_named p n w.0 b.1, q.0, asleep_is _ b.0)
  passed (lock p n r) i e =
      let w = by_running_lem p n i _ e in
      let a = demand_met 14 (ltb 0 ((T.task w.0).uses r)) _ i w.2 in
      let b = demand_met 15 (not (holds (s.entry w.0)) && ltb (length s.sections) 16) _ i a.1 in
      let c = and_true (not (holds (s.entry w.0))) _ b.0 in
      let d = demand_met 16 (ltb ((s.entry w.0).opened r) ((T.task w.0).uses r)) _ i b.1 in
      let same : w.0 ≡ i = cc in
      rw (← same) (w.1, is_free w.0 c.0, ltb-true _ _ a.0, ltb-true _ _ c.1, ltb-true _ _ d.0)
  passed (unlock p n r) i e =
      let w = by_running_lem p n i _ e in
      let a = demand_met 17 (holds (s.entry w.0) && eqb (s.entry w.0).held r) _ i w.2 in
      let b = and_true (holds (s.entry w.0)) _ a.0 in
      let same : w.0 ≡ i = cc in
      rw (← same) (w.1, eqb-true _ _ b.1, holds_held (s.entry w.0) b.0)
  passed (suspend p n) i e =
      let w = by_running_lem p n i _ e in
      let a = demand_met 18 (not (holds (s.entry w.0))) _ i w.2 in
      let b = demand_met 19 (ltb (s.entry w.0).sleeps (T.task w.0).most) _ i a.1 in
      let same : w.0 ≡ i = cc in
      rw (← same) (w.1, is_free w.0 a.0, ltb-true _ _ b.0)
  passed (complete p n) i e =
      let w = by_running_lem p n i _ e in
      let a = demand_met 18 (not (holds (s.entry w.0))) _ i w.2 in
      let same : w.0 ≡ i = cc in
      rw (← same) (w.1, is_free w.0 a.0)

  -- what a granted call has passed
  pub granted : (c : Call) (i : ℕ) → ruling E T s c ≡ grant i → Granted E T s c i
  granted c i e = passed c i (demand_met 26 (fit T s) (checks E T s c) i e).1
