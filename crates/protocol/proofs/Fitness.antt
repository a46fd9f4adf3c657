-- A sound state is fit, and what a fit state is known to have.
use mathlib.Core.Path.{◌≡◌, refl}
use mathlib.Core.List.{List, [], ◌∷◌}
use mathlib.Core.Logic.{inl, inr}
use mathlib.Core.Bool.{Bool, true, ◌&&◌}
use Prim.Native.Nat.{ℕ, ◌≤◌, ◌<◌}
use lib.Dec.{ltb, leb}
use lib.ListN.{length}
use borrow.Author.Tests.{ltb-true, leb-true, le-leb, lt-ltb}
use Rattle.searches.specs.Searches.{all}
use Rattle.searches.proofs.Testing.{and_true, true_and}
use Rattle.searches.proofs.Searching.{all_true, all_each, some_true}
use Rattle.protocol.specs.Tasks.{Table, priority, setting}
use Rattle.protocol.specs.State.{Section, State}
use Rattle.protocol.specs.Fit.{used, named, fit}
use Rattle.protocol.specs.Accepted.{Accepted}
use Rattle.protocol.proofs.Chain.{In}
use Rattle.protocol.proofs.Invariant.{Sound}
use Rattle.protocol.proofs.Lows.{holder_inside}

-- sections of users at the table's places are named
named_true : (T : Table) (l : List Section)
    → ((t : Section) → In t l → (t.place < T.size) × (0 < (T.task t.place).uses t.resource)) → named T l ≡ true
unfolding named used
named_true T [] h = refl
named_true T (t ∷ l) h =
    let w = h t (inl refl) in
    true_and
    (true_and (lt-ltb t.place T.size w.0)
    (some_true (λ i. ltb 0 ((T.task i).uses t.resource)) T.size t.place w.0 (lt-ltb 0 ((T.task t.place).uses t.resource) w.1)))
    (named_true T l (λ u i. h u (inr i)))

-- so no state that is reached is refused as unfit
pub sound_fit : {T : Table} → Accepted T → {s : State} → Sound T s → fit T s ≡ true
unfolding fit
sound_fit {T} A {s} S =
    true_and (le-leb T.size 32 A.few)
    (true_and (all_true (λ i. ltb (setting T i) (priority T i)) T.size (λ i lt. lt-ltb (setting T i) (priority T i) (A.below i lt)))
    (true_and (le-leb (length s.sections) 16 S.room)
    (named_true T s.sections (λ t o. (holder_inside A S t o, (S.holder t o).uses)))))

-- and a fit state has at most 32 tasks, settings below their priorities and at most 16 open sections
pub fit_says : (T : Table) (s : State) → fit T s ≡ true
    → (T.size ≤ 32) × ((i : ℕ) → i < T.size → setting T i < priority T i) × (length s.sections ≤ 16)
unfolding fit
fit_says T s e =
    let under : ℕ → Bool = λ i. ltb (setting T i) (priority T i) in
    let a = and_true (leb T.size 32) (all under T.size && (leb (length s.sections) 16 && named T s.sections)) e in
    let b = and_true (all under T.size) (leb (length s.sections) 16 && named T s.sections) a.1 in
    let c = and_true (leb (length s.sections) 16) (named T s.sections) b.1 in (
      leb-true T.size 32 a.0,
      λ i lt. ltb-true (setting T i) (priority T i) (all_each under T.size b.0 i lt),
      leb-true (length s.sections) 16 c.0,
    )
