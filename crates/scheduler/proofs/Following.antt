-- The reply to a call, seen as the machine's state, is the machine's step: the tie.
use mathlib.Core.Path.{◌≡◌, refl, sym, ap, ap₂, fun_ext, ◌∙◌}
use mathlib.Core.Bool.{Bool, true, false, cond}
use mathlib.Core.List.{List}
use Prim.Native.Nat.{ℕ, zero, suc, ◌+◌, ◌*◌, ◌/◌, ◌%◌, ◌≤◌, ◌<◌}
use native.Mathlib.Omega.{arith}
use native.Mathlib.Decide.{dec_lt}
use lib.Dec.{ltb}
use lib.ListN.{length, get_or, get_or-eq_default}
use lib.Seq.{ext_get_or}
use borrow.Author.Tests.{lt-ltb, le-ltb}
use Rattle.searches.specs.Searches.{only}
use Rattle.protocol.specs.State.{Status, none, ready, waiting, asleep, Section, State}
use Rattle.protocol.specs.Running.{in_force}
use Rattle.protocol.specs.Fit.{fit}
use Rattle.protocol.specs.Checks.{Call}
use Rattle.protocol.specs.Acting.{section}
use Rattle.protocol.specs.Step.{step}
use Rattle.searches.specs.Indexed.{every}
use Rattle.searches.proofs.Indexed.{length_every, every_at}
use Rattle.arrays.specs.View.{status_of, own_number, count_of}
use Rattle.arrays.proofs.Opened.{sections_length}
use Rattle.scheduler.specs.declared.Scheduler.{Scheduler}
use Rattle.scheduler.specs.View.{Sized, table_of, entry_of, state_of}
use Rattle.scheduler.specs.Replies.{says, number_for, slot_for, written, replied}
use Rattle.scheduler.proofs.Written.{beside_self, section_at, written_again}
use Rattle.scheduler.proofs.Viewing.{Fit, fit_known}
use Rattle.scheduler.proofs.Reach.{step_past, step_unused, step_few}

-- ---- an array by its places, read again

-- past an array
past_end : {A : Type 0} (l : List A) (n k : ℕ) (d : A) → length l ≡ n → n ≤ k → get_or l k d ≡ d
past_end l n k d e h = get_or-eq_default l d (omega arith)

-- the number for a status says it
number_says : (n : ℕ) (x : Status) → status_of (number_for n x) ≡ x
number_says n x = go (status_of n) x refl
  where
    go : (y z : Status) → status_of n ≡ y → status_of (cond (says y z) n (own_number z)) ≡ z
    go none none e = e
    go ready ready e = e
    go waiting waiting e = e
    go asleep asleep e = e
    go none ready e = refl
    go none waiting e = refl
    go none asleep e = refl
    go ready none e = refl
    go ready waiting e = refl
    go ready asleep e = refl
    go waiting none e = refl
    go waiting ready e = refl
    go waiting asleep e = refl
    go asleep none e = refl
    go asleep ready e = refl
    go asleep waiting e = refl

-- ---- a state that fits the arrays

-- Its entries past the arrays are as in s, it counts no resource but 1 to 16, and it has at most 16 open sections.
record Storable (s : Scheduler) (t : State) : Type 0 where
  pub past : (k : ℕ) → 32 ≤ k → t.entry k ≡ entry_of s k
  pub low : (k : ℕ) → (t.entry k).opened 0 ≡ 0
  pub high : (k r : ℕ) → 16 ≤ r → (t.entry k).opened (suc r) ≡ 0
  pub few : length t.sections ≤ 16

-- the arrays written have their lengths
written_sized : {s : Scheduler} → Sized s → (t : State) → Sized (written s t)
written_sized Z t = record {
  priorities = Z.priorities;
  settings = Z.settings;
  most = Z.most;
  uses = Z.uses;
  states = length_every _ 32 0;
  started = length_every _ 32 0;
  sleeps = length_every _ 32 0;
  opened = length_every _ 512 0;
  held = length_every _ 32 0;
  serials = length_every _ 32 0;
  places = length_every _ 16 0;
  resources = length_every _ 16 0;
}

-- the counts past an array are 0
counts_past : (l : List ℕ) → length l ≡ 512 → (k : ℕ) → 32 ≤ k → (r : ℕ) → count_of l k r ≡ 0
counts_past l e k h zero = refl
counts_past l e k h (suc r) = go (ltb r 16)
  where
    go : (b : Bool) → only b (get_or l (k * 16 + r) 0) ≡ 0
    go true = past_end l 512 (k * 16 + r) 0 e (omega arith)
    go false = refl

-- an entry past the arrays is empty
entry_past : {s : Scheduler} → Sized s → (k : ℕ) → 32 ≤ k
    → entry_of s k ≡ record { status = none; started = false; sleeps = 0; opened = λ r. 0; held = 0; next = 0 }
entry_past {s} Z k h =
    let status = ap status_of (past_end s.entries.states 32 k 0 Z.states h) in
    let started = past_end s.entries.started 32 k false Z.started h in
    let sleeps = past_end s.entries.sleeps 32 k 0 Z.sleeps h in
    let opened = fun_ext (counts_past s.entries.opened Z.opened k h) in
    let held = past_end s.entries.held 32 k 0 Z.held h in
    let next = past_end s.entries.serials 32 k 0 Z.serials h in
    λ i. record { status = status i; started = started i; sleeps = sleeps i; opened = opened i; held = held i; next = next i }

module _ (s : Scheduler) (Z : Sized s) (t : State) (B : Storable s t) where
  -- the counts, written and seen
  counts_seen : (k : ℕ) → k < 32 → (r : ℕ) → count_of (written s t).entries.opened k r ≡ (t.entry k).opened r
  counts_seen k h zero = sym (B.low k)
  counts_seen k h (suc r) = go (dec_lt r 16)
    where
      go : Dec (r < 16) → only (ltb r 16) (get_or (written s t).entries.opened (k * 16 + r) 0) ≡ (t.entry k).opened (suc r)
      go (yes lt) =
          let q : (k * 16 + r) / 16 ≡ k = omega arith in
          let m : (k * 16 + r) % 16 + 1 ≡ suc r = omega arith in
          rw (lt-ltb r 16 lt)
          (every_at (λ j. (t.entry (j / 16)).opened (j % 16 + 1)) 512 (k * 16 + r) 0 (omega arith) ∙ ap₂ (λ i x. (t.entry i).opened x) q m)
      go (no ge) = rw (le-ltb r 16 (omega arith)) (sym (B.high k r (omega arith)))

  -- an entry within the arrays
  entry_seen : (k : ℕ) → k < 32 → entry_of (written s t) k ≡ t.entry k
  entry_seen k h =
      let status = ap status_of (every_at (λ j. number_for (get_or s.entries.states j 0) (t.entry j).status) 32 k 0 h)
      ∙ number_says (get_or s.entries.states k 0) (t.entry k).status in
      let started = every_at (λ j. (t.entry j).started) 32 k false h in
      let sleeps = every_at (λ j. (t.entry j).sleeps) 32 k 0 h in
      let opened = fun_ext (counts_seen k h) in
      let held = every_at (λ j. (t.entry j).held) 32 k 0 h in
      let next = every_at (λ j. (t.entry j).next) 32 k 0 h in
      λ i. record { status = status i; started = started i; sleeps = sleeps i; opened = opened i; held = held i; next = next i }

  -- so each entry is seen
  entries_seen : entry_of (written s t) ≡ t.entry
  entries_seen = fun_ext (λ k. go k (dec_lt k 32))
    where
      go : (k : ℕ) → Dec (k < 32) → entry_of (written s t) k ≡ t.entry k
      go k (yes h) = entry_seen k h
      go k (no h) = entry_past (written_sized Z t) k (omega arith) ∙ sym (entry_past Z k (omega arith)) ∙ sym (B.past k (omega arith))

  -- the slot of an open section
  slot_seen : (field : Section → ℕ) (before : List ℕ) (k : ℕ) → k < length t.sections
      → get_or (every (slot_for field t.sections s.sections.count before) 16 0) k 0 ≡ field (get_or t.sections k (section 0 0))
  slot_seen field before k h =
      every_at (slot_for field t.sections s.sections.count before) 16 k 0 (omega (arith, B.few)) ∙ rw (lt-ltb k (length t.sections) h)

  -- and so the open sections are
  sections_seen : (state_of (written s t)).sections ≡ t.sections
  sections_seen =
      let size = sections_length (written s t).sections.places (written s t).sections.resources (length t.sections) in
      ext_get_or (section 0 0) _ t.sections size
      (λ k lt.
      section_at (written s t).sections.places (written s t).sections.resources (length t.sections) k (omega arith)
      ∙ ap₂ section (slot_seen (λ u. u.place) s.sections.places k (omega arith)) (slot_seen (λ u. u.resource) s.sections.resources k (omega arith)))

  -- what is written is seen
  written_seen : state_of (written s t) ≡ t
  written_seen = ap₂ (λ f l. record { entry = f; sections = l }) entries_seen sections_seen

-- ---- the tie

module _ {s : Scheduler} (Z : Sized s) (c : Call) where
  -- the next state fits the arrays, where the state is fit
  next_storable : Fit s → Storable s (step in_force (table_of s) (state_of s) c).state
  next_storable F = record {
    past = λ k h. step_past in_force (table_of s) (state_of s) k (omega (arith, F.few)) c;
    low = step_unused in_force (table_of s) (state_of s) 0 (λ i. refl) (λ i. refl) c;
    high = λ k r h. step_unused in_force (table_of s) (state_of s) (suc r) (λ i. rw (le-ltb r 16 h)) (λ i. rw (le-ltb r 16 h)) c k;
    few = step_few in_force (table_of s) (state_of s) (omega (arith, F.room, sections_length s.sections.places s.sections.resources s.sections.count)) c;
  }

  -- an unfit state stays
  unfit_keeps : fit (table_of s) (state_of s) ≡ false → (step in_force (table_of s) (state_of s) c).state ≡ state_of s
  unfolding step
  unfit_keeps e = rw e

  -- the reply's state, seen, is the machine's next state
  pub replied_follows : state_of (replied s c).state ≡ (step in_force (table_of s) (state_of s) c).state
  replied_follows = go (fit (table_of s) (state_of s)) refl
    where
      go : (b : Bool) → fit (table_of s) (state_of s) ≡ b → state_of (replied s c).state ≡ (step in_force (table_of s) (state_of s) c).state
      go true e = written_seen s Z (step in_force (table_of s) (state_of s) c).state (next_storable (fit_known s e))
      go false e =
          ap (λ t. state_of (written s t)) (unfit_keeps e) ∙ sym (ap state_of (written_again Z (beside_self s))) ∙ sym (unfit_keeps e)

  -- its table is the same
  pub replied_keeps : table_of (replied s c).state ≡ table_of s
  replied_keeps = refl

  -- and its arrays have their lengths
  pub replied_sized : Sized (replied s c).state
  replied_sized = written_sized Z (step in_force (table_of s) (state_of s) c).state
