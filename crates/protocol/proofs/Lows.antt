-- Who can run in a sound state, and what a lower job that runs is doing.
use mathlib.Core.Path.{◌≡◌, refl, sym, ap, ◌∙◌}
use mathlib.Core.Logic.{◌⊎◌, inl, inr, ⊎_elim}
use mathlib.Core.Bool.{Bool, true, false}
use Prim.Native.Nat.{ℕ, ◌≤◌, ◌<◌}
use native.Mathlib.Omega.{arith}
use native.Mathlib.Decide.{dec_lt}
use Rattle.searches.proofs.Testing.{impossible}
use Rattle.protocol.specs.Tasks.{Table, priority, setting}
use Rattle.protocol.specs.State.{Status, none, ready, waiting, asleep, Section, State, holds}
use Rattle.protocol.specs.Running.{ceiling, system_ceiling, system_priority, Rule}
use Rattle.protocol.specs.Acting.{section}
use Rattle.protocol.specs.Accepted.{Accepted, Lawful}
use Rattle.protocol.specs.ShortWaits.{past_sleepers}
use Rattle.protocol.proofs.Chain.{In, low, high, chain_last, chain_order, chain_within}
use Rattle.protocol.proofs.Invariant.{Unfinished, Sound}
use Rattle.protocol.proofs.Runner.{priority_of, held_holds, Runs}

-- Ready or waiting.
abbrev pub Awake : Status → Type 0
Awake none = ⊥
Awake ready = Unit {0}
Awake waiting = Unit {0}
Awake asleep = ⊥

-- an awake job is unfinished
pub awake_live : (x : Status) → Awake x → x ≡ none → ⊥
awake_live none a e = a
awake_live ready a e = impossible cc
awake_live waiting a e = impossible cc
awake_live asleep a e = a

-- an unfinished one is awake or asleep
pub awake_or_asleep : (x : Status) → (x ≡ none → ⊥) → Awake x ⊎ (x ≡ asleep)
awake_or_asleep none u = absurd (u refl)
awake_or_asleep ready u = inl tt
awake_or_asleep waiting u = inl tt
awake_or_asleep asleep u = inr refl

-- ---- sections and their holders

module _ {T : Table} (A : Accepted T) {s : State} (S : Sound T s) where
  -- a ready job stands at a place of the table
  pub ready_inside : (i : ℕ) → (s.entry i).status ≡ ready → i < T.size
  ready_inside i r = (S.each i).inside (λ n. impossible cc)

  -- so does the holder of an open section
  pub holder_inside : (t : Section) → In t s.sections → t.place < T.size
  holder_inside t o = ready_inside t.place (S.holder t o).stands

  -- a job with no held mark has no section open
  pub unheld : (t : Section) → In t s.sections → (s.entry t.place).held ≡ 0 → ⊥
  unheld t o z =
      let h = S.holder t o in
      omega (arith, h.uses, ap (T.task t.place).uses (sym h.held ∙ z), A.proper t.place)

  -- a resource is in one open section
  pub one_section : (t u : Section) → In t s.sections → In u s.sections → t.resource ≡ u.resource → t ≡ u
  one_section t u i j e = go (chain_order T 0 s.sections t u S.chain i j)
    where
      go : (t ≡ u) ⊎ ((high T t < low T u) ⊎ (high T u < low T t)) → t ≡ u
      go (inl q) = q
      go (inr (inl lt)) = absurd (omega (arith, chain_within T 0 s.sections u S.chain j, ap (ceiling T) e))
      go (inr (inr lt)) = absurd (omega (arith, chain_within T 0 s.sections t S.chain i, ap (ceiling T) e))

  -- and held by one job
  pub held_once : (i j : ℕ) → ((s.entry i).held ≡ 0 → ⊥) → (s.entry i).held ≡ (s.entry j).held → i ≡ j
  held_once i j ne e =
      ap (λ t. t.place)
      (one_section (section i (s.entry i).held) (section j (s.entry j).held) ((S.each i).mark ne) ((S.each j).mark (λ z. ne (e ∙ z))) e)

-- ---- the running job

-- A job below an awake one runs: the awake one waits, and the running one has the last section open, whose ceiling reaches the awake one.
pub record Low (T : Table) (s : State) (q i : ℕ) : Type 0 where
  pub waits : (s.entry i).status ≡ waiting
  pub last : Section
  pub is_open : In last s.sections
  pub held : last.place ≡ q
  pub reaches : priority T i ≤ high T last

module _ {E : Rule} (L : Lawful E) {T : Table} (A : Accepted T) {s : State} (S : Sound T s) {q : ℕ} (R : Runs E T s q) where
  -- no holder is above the running job
  pub tops_holders : (t : Section) → In t s.sections → low T t ≤ priority T q
  tops_holders t o = go (dec_lt (priority T q) (low T t)) (holds (s.entry q)) refl
    where
      tops : E (system_priority T s.entry) (low T t) true ≡ true → low T t ≤ priority T q
      tops e =
          R.tops t.place (holder_inside A S t o) (S.holder t o).stands (rw (held_holds (s.entry t.place) (unheld A S t o)) e)

      go : Dec (priority T q < low T t) → (b : Bool) → holds (s.entry q) ≡ b → low T t ≤ priority T q
      go (yes lt) true h = tops (L.rises (system_priority T s.entry) (priority T q) (low T t) (rw h at R.may) lt)
      go (yes lt) false h =
          let f : system_priority T s.entry < priority T q = L.only_above (system_priority T s.entry) (priority T q) (rw h at R.may) in
          tops (L.above (system_priority T s.entry) (low T t) true (omega arith))
      go (no ge) b h = omega arith

  -- the holder of a section, not below the running job, is the running job
  is_running : (t : Section) → In t s.sections → priority T q ≤ low T t → t.place ≡ q
  is_running t o ge = A.unique t.place q (holder_inside A S t o) R.inside (omega (arith, tops_holders t o))

  -- a running job that holds nothing is above the system priority
  pub free_above : (s.entry q).held ≡ 0 → system_priority T s.entry < priority T q
  free_above z = L.only_above (system_priority T s.entry) (priority T q) (rw z at R.may)

  -- and above every ceiling
  pub free_high : (s.entry q).held ≡ 0 → (t : Section) → In t s.sections → high T t < priority T q
  free_high z t o = go (dec_lt (low T t) (priority T q))
    where
      go : Dec (low T t < priority T q) → high T t < priority T q
      go (yes lt) = (S.each q).gap R.stands t o lt
      go (no ge) = absurd (unheld A S t o (rw (is_running t o (omega arith)) z))

  -- and above the system ceiling
  pub free_top : (s.entry q).held ≡ 0 → system_ceiling T s < priority T q
  free_top z = go (chain_last T 0 s.sections)
    where
      go : (system_ceiling T s ≡ 0) ⊎ ((t : Section) × In t s.sections × (high T t ≡ system_ceiling T s)) → system_ceiling T s < priority T q
      go (inl e) = omega (arith, A.below q R.inside)
      go (inr w) = omega (arith, free_high z w.0 w.1, w.2)

  -- a job that runs below an awake one above the system priority is inside the section that the awake one waits for
  pub lows : (i : ℕ) → Awake (s.entry i).status → system_priority T s.entry < priority T i → priority T q < priority T i → Low T s q i
  lows i a up lt = go (s.entry i).status refl a
    where
      under : (s.entry i).status ≡ waiting → (t : Section) → In t s.sections → high T t ≡ system_ceiling T s → Low T s q i
      under w t o e = record {
        waits = w;
        last = t;
        is_open = o;
        held = place (dec_lt (low T t) (priority T q));
        reaches = omega (arith, (S.each i).waits w);
      }
        where
          place : Dec (low T t < priority T q) → t.place ≡ q
          place (yes d) = absurd (omega (arith, (S.each q).gap R.stands t o d, (S.each i).waits w))
          place (no d) = is_running t o (omega arith)

      go : (x : Status) → (s.entry i).status ≡ x → Awake x → Low T s q i
      go none e a = absurd a
      go asleep e a = absurd a
      go ready e a =
          absurd (omega (arith, R.tops i (ready_inside A S i e) e (L.above (system_priority T s.entry) (priority T i) (holds (s.entry i)) up)))
      go waiting e a =
          ⊎_elim (λ z. absurd (omega (arith, (S.each i).waits e, z))) (λ w. under e w.0 w.1 w.2) (chain_last T 0 s.sections)

  -- who sees it run, and is past all sleepers, is above the system priority: the job whose setting that is, awake, would wait for a section that its
  -- own setting reaches
  pub past_above : (p : ℕ) → priority T q < p → past_sleepers T s.entry p → system_priority T s.entry < p
  past_above p lt past = go (dec_lt (system_priority T s.entry) p)
    where
      waits_not : (j : ℕ) → j < T.size → (s.entry j).started ≡ true → Unfinished (s.entry j) → priority T q < setting T j
          → setting T j ≡ system_priority T s.entry → Awake (s.entry j).status → ⊥
      waits_not j lj b u le e a =
          let l = lows j a (omega (arith, A.below j lj)) (omega (arith, A.below j lj)) in
          omega (arith, l.reaches, (S.each j).reach b u l.last l.is_open (omega (arith, ap (priority T) l.held)))

      go : Dec (system_priority T s.entry < p) → system_priority T s.entry < p
      go (yes up) = up
      go (no ge) =
          let w = priority_of T s.entry (omega arith) in
          ⊎_elim (λ a. absurd (waits_not w.0 w.1 w.2 w.3 (omega (arith, w.4)) w.4 a)) (λ z. absurd (omega (arith, w.4, past w.0 w.1 z)))
          (awake_or_asleep (s.entry w.0).status w.3)

  -- where the running job holds nothing, no awake job is above it
  pub frees : (s.entry q).held ≡ 0 → (i : ℕ) → Awake (s.entry i).status → priority T i ≤ priority T q
  frees z i a = go (dec_lt (priority T q) (priority T i))
    where
      go : Dec (priority T q < priority T i) → priority T i ≤ priority T q
      go (no ge) = omega arith
      go (yes lt) =
          let l = lows i a (omega (arith, free_above z)) lt in
          absurd (unheld A S l.last l.is_open (rw l.held z))
