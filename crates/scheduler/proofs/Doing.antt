-- What a granted release, resume, suspend or complete does to the arrays is the machine's change of one entry.
use Rattle.std.proofs.Common.{◌≡◌, ℕ, ◌+◌, ◌<◌, Bool, true, false, List, length, get_or, set, ltb, refl, sym, ap, subst, arith, get_or-set_same, get_or-set_other}
use native.Mathlib.Decide.{ℕ_discrete}
use Rattle.protocol.specs.Tasks.{priority}
use Rattle.protocol.specs.State.{Status, none, ready, asleep, following}
use Rattle.protocol.specs.Running.{system_ceiling, in_force}
use Rattle.protocol.specs.Checks.{Call, release, resume, suspend, complete}
use Rattle.protocol.specs.Acting.{become, renewed, slept, admitted_by, admitted, act}
use Rattle.protocol.proofs.Runner.{runs}
use Rattle.arrays.specs.declared.entries.Entries.{Entries}
use Rattle.arrays.specs.View.{status_of, own_number, entries_of}
use Rattle.arrays.specs.Stores.{Cleared}
use Rattle.arrays.proofs.Numbers.{own_status}
use Rattle.scheduler.specs.declared.Scheduler.{Scheduler}
use Rattle.scheduler.specs.View.{table_of, entry_of, state_of}
use Rattle.scheduler.specs.Replies.{says, number_for}
use Rattle.scheduler.proofs.Written.{number_kept, slot_same}
use Rattle.scheduler.proofs.Storing.{stored}
use Rattle.scheduler.proofs.Ends.{Done}
use Rattle.scheduler.proofs.Asking.{Grants}

-- ---- numbers of states

-- a number stored for another status is that status's own
pub numbers_set : (l : List ℕ) (i v : ℕ) → i < length l → v ≡ number_for (get_or l i 0) (status_of v)
    → (k : ℕ) → get_or (set l i v) k 0 ≡ number_for (get_or l k 0) (status_of (get_or (set l i v) k 0))
numbers_set l i v lt e k = go (ℕ_discrete k i)
  where
    go : Dec (k ≡ i) → get_or (set l i v) k 0 ≡ number_for (get_or l k 0) (status_of (get_or (set l i v) k 0))
    go (yes q) = rw (q, get_or-set_same l i v 0 lt) e
    go (no ne) = rw (get_or-set_other l i k v 0 ne) (number_kept (get_or l k 0))

-- so is that of a status which the job did not have
number_new : (n v : ℕ) (x y : Status) → v ≡ own_number y → status_of n ≡ x → says x y ≡ false → v ≡ number_for n (status_of v)
number_new n v x y e was new = rw (e, own_status y, was, new)

-- an admitted job was neither out of work nor asleep
admitted_new : (b : Bool) → (says none (admitted_by b) ≡ false) × (says asleep (admitted_by b) ≡ false)
admitted_new true = (refl, refl)
admitted_new false = (refl, refl)

-- ---- entries stored

-- the open sections stay where only entries are stored
entries_done : {s : Scheduler} {c : Call} {i : ℕ} (e : Entries) → Grants s c i
    → record { entry = entries_of e; sections = (state_of s).sections } ≡ act (table_of s) (state_of s) c i
    → ((k : ℕ) → get_or e.states k 0 ≡ number_for (get_or s.entries.states k 0) (status_of (get_or e.states k 0)))
    → Done s (record s { entries = e }) c i
entries_done {s} e G acts numbers = record {
  fits = G.fits;
  grants = G.grants;
  acts = acts;
  beside = record {
    same = refl;
    numbers = numbers;
    places = λ k le. slot_same s.sections.count k (get_or s.sections.places k 0) le;
    resources = λ k le. slot_same s.sections.count k (get_or s.sections.resources k 0) le;
  };
}

-- ---- the calls of the running job

-- it ends
pub complete_done : {s : Scheduler} {p n i v : ℕ} → Grants s (complete p n) i → v ≡ own_number none
    → Done s (record s { entries = record s.entries { states = set s.entries.states i v } }) (complete p n) i
complete_done {s} {p} {n} {i} {v} G e =
    let l = s.entries.states in
    let lt : i < length l = omega (arith, G.sized.states, G.place) in
    let was = (runs {E = in_force} {T = table_of s} {s = state_of s} G.passed.0.runs).stands in
    entries_done (record s.entries { states = set l i v }) G
    (ap (λ f. record { entry = f; sections = (state_of s).sections })
    (stored (entry_of s) _ i (become none (entry_of s i)) (rw (get_or-set_same l i v 0 lt, e))
    (λ k ne. rw (get_or-set_other l i k v 0 ne))))
    (numbers_set l i v lt (number_new (get_or l i 0) v ready none e was refl))

-- it falls asleep
pub suspend_done : {s : Scheduler} {p n i v : ℕ} → Grants s (suspend p n) i → v ≡ own_number asleep
    → Done s (record s {
      entries = record s.entries {
        states = set s.entries.states i v;
        sleeps = set s.entries.sleeps i (get_or s.entries.sleeps i 0 + 1);
      };
    }) (suspend p n) i
suspend_done {s} {p} {n} {i} {v} G e =
    let l = s.entries.states in
    let m = s.entries.sleeps in
    let x = get_or m i 0 + 1 in
    let lt : i < length l = omega (arith, G.sized.states, G.place) in
    let was = (runs {E = in_force} {T = table_of s} {s = state_of s} G.passed.0.runs).stands in
    entries_done (record s.entries { states = set l i v; sleeps = set m i x }) G
    (ap (λ f. record { entry = f; sections = (state_of s).sections })
    (stored (entry_of s) _ i (slept (entry_of s i))
    (rw (get_or-set_same l i v 0 lt, get_or-set_same m i x 0 (omega (arith, G.sized.sleeps, G.place)), e))
    (λ k ne. rw (get_or-set_other l i k v 0 ne, get_or-set_other m i k x 0 ne))))
    (numbers_set l i v lt (number_new (get_or l i 0) v ready asleep e was refl))

-- ---- admission

-- the status that a job is admitted with
abbrev pub admission : Scheduler → ℕ → Status
admission s i = admitted (table_of s) (system_ceiling (table_of s) (state_of s)) i

-- a sleeping job wakes
pub resume_done : {s : Scheduler} {p n i v : ℕ} → Grants s (resume p n) i → v ≡ own_number (admission s i)
    → Done s (record s { entries = record s.entries { states = set s.entries.states i v } }) (resume p n) i
resume_done {s} {p} {n} {i} {v} G e =
    let l = s.entries.states in
    let lt : i < length l = omega (arith, G.sized.states, G.place) in
    let new = admitted_new (ltb (system_ceiling (table_of s) (state_of s)) (priority (table_of s) i)) in
    entries_done (record s.entries { states = set l i v }) G
    (ap (λ f. record { entry = f; sections = (state_of s).sections })
    (stored (entry_of s) _ i (become (admission s i) (entry_of s i))
    (rw (get_or-set_same l i v 0 lt, e, own_status (admission s i)))
    (λ k ne. rw (get_or-set_other l i k v 0 ne))))
    (numbers_set l i v lt (number_new (get_or l i 0) v asleep (admission s i) e G.passed.2 new.1))

-- a job begins
pub release_done : {s : Scheduler} {p i v : ℕ} {after : Entries} → Grants s (release p) i → v ≡ own_number (admission s i)
    → Cleared s.entries.opened i after.opened
    → after ≡ record s.entries {
      states = set s.entries.states i v;
      started = set s.entries.started i false;
      sleeps = set s.entries.sleeps i 0;
      opened = after.opened;
      serials = set s.entries.serials i (following (get_or s.entries.serials i 0));
    } → Done s (record s { entries = after }) (release p) i
release_done {s} {p} {i} {v} {after} G e C rest =
    let E = s.entries in
    let w = following (get_or E.serials i 0) in
    let Z = G.sized in
    let lt : i < length E.states = omega (arith, Z.states, G.place) in
    let new = admitted_new (ltb (system_ceiling (table_of s) (state_of s)) (priority (table_of s) i)) in
    subst (λ f. Done s (record s { entries = f }) (release p) i) (sym rest)
    (entries_done _ G
    (ap (λ f. record { entry = f; sections = (state_of s).sections })
    (stored (entry_of s) _ i (renewed (admission s i) (entry_of s i))
    (rw (
      get_or-set_same E.states i v 0 lt,
      get_or-set_same E.started i false false (omega (arith, Z.started, G.place)),
      get_or-set_same E.sleeps i 0 0 (omega (arith, Z.sleeps, G.place)),
      get_or-set_same E.serials i w 0 (omega (arith, Z.serials, G.place)),
      C.here,
      e,
      own_status (admission s i),
    ))
    (λ k ne. rw (
      get_or-set_other E.states i k v 0 ne,
      get_or-set_other E.started i k false false ne,
      get_or-set_other E.sleeps i k 0 0 ne,
      get_or-set_other E.serials i k w 0 ne,
      C.others k ne,
    ))))
    (numbers_set E.states i v lt (number_new (get_or E.states i 0) v none (admission s i) e G.passed.2 new.0)))
