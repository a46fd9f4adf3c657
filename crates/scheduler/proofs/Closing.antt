-- What a granted unlock does to the arrays is the machine's: the entry freed, the section closed, and the waiting jobs above the new ceiling woken.
use Rattle.std.proofs.Common.{◌≡◌, ℕ, zero, suc, ◌-◌, ◌<◌, Bool, true, false, ◌&&◌, cond, ltb, List, get_or, set, refl, sym, ap, ◌∙◌, arith, get_or-set_same, get_or-set_other, lt-ltb, le-ltb}
use mathlib.Core.Path.{fun_ext}
use native.Mathlib.Decide.{dec_lt}
use Rattle.searches.specs.Searches.{at, first}
use Rattle.protocol.specs.State.{ready, Entry, is_waiting}
use Rattle.protocol.specs.Running.{top}
use Rattle.protocol.specs.Checks.{unlock}
use Rattle.protocol.specs.Acting.{section, has, pick, become, freed, without, woken, closed}
use Rattle.arrays.specs.declared.sections.Sections.{Sections}
use Rattle.arrays.specs.View.{status_of, sections_by, sections_of, is_section}
use Rattle.arrays.specs.Stores.{Removed, Woken}
use Rattle.arrays.proofs.Numbers.{waiting_number}
use Rattle.scheduler.specs.declared.Scheduler.{Scheduler}
use Rattle.scheduler.specs.View.{table_of, entry_of, state_of}
use Rattle.scheduler.specs.Beside.{Beside}
use Rattle.scheduler.specs.Replies.{number_for}
use Rattle.scheduler.proofs.Storing.{stored}
use Rattle.scheduler.proofs.Ends.{Done}
use Rattle.scheduler.proofs.Asking.{Grants}
use Rattle.scheduler.proofs.Removing.{is_there, section_removed}

-- ---- waking

-- a woken job's number says ready, and any other stays
woken_status : (e : Entry) (n : ℕ) (d : Bool) → status_of n ≡ e.status → become (status_of (cond d 1 n)) e ≡ pick d (become ready e) e
woken_status e n true q = refl
woken_status e n false q = ap (λ x. become x e) q

-- and is right beside the number before
pub woken_number_lem : (n : ℕ) (d : Bool) → cond (is_waiting (status_of n) && d) 1 n ≡ number_for n (status_of (cond (is_waiting (status_of n) && d) 1 n))
woken_number_lem zero d = refl
woken_number_lem (suc zero) d = refl
woken_number_lem (suc (suc zero)) true = refl
woken_number_lem (suc (suc zero)) false = refl
woken_number_lem (suc (suc (suc zero))) d = refl
woken_number_lem (suc (suc (suc (suc n)))) d = refl

module _ (s : Scheduler) (states : List ℕ) (c : ℕ) (W : Woken s.entries.states s.tasks.priorities c s.tasks.count states) where
  -- the entries after it are the machine's
  woken_entry : (k : ℕ) → become (status_of (get_or states k 0)) (entry_of s k) ≡ woken (table_of s) c (entry_of s) k
  woken_entry k = go (dec_lt k s.tasks.count)
    where
      go : Dec (k < s.tasks.count) → become (status_of (get_or states k 0)) (entry_of s k) ≡ woken (table_of s) c (entry_of s) k
      go (yes h) =
          rw (W.before k h, waiting_number (get_or s.entries.states k 0), lt-ltb k s.tasks.count h)
          (woken_status (entry_of s k) (get_or s.entries.states k 0)
          (is_waiting (status_of (get_or s.entries.states k 0)) && ltb c (get_or s.tasks.priorities k 0)) refl)
      go (no h) = rw (W.past k (omega arith), le-ltb k s.tasks.count (omega arith))

-- ---- closing

-- What the code did where the section of the place i and the resource r is in the slot k: it is removed, and the jobs above the ceiling that is
-- left are woken.
pub record Closes (s : Scheduler) (i r k : ℕ) (o : Sections) (states : List ℕ) : Type 0 where
  pub found : first (is_section s.sections.places s.sections.resources i r) s.sections.count ≡ at k
  pub count : o.count ≡ s.sections.count - 1
  pub places : Removed s.sections.places k s.sections.count o.places
  pub resources : Removed s.sections.resources k s.sections.count o.resources
  pub wakes : Woken s.entries.states s.tasks.priorities (top (table_of s) 0 (sections_of o)) s.tasks.count states

module _ {s : Scheduler} {i r k : ℕ} {o : Sections} {states : List ℕ} (C : Closes s i r k o states) where
  -- the scheduler after it
  abbrev after : Scheduler
  after = record s { entries = record s.entries { states = states }; sections = o }

  -- the machine closes it, too
  pub closes : state_of after ≡ closed (has (section i r) (sections_of s.sections)) (table_of s) (section i r) (state_of s)
  closes =
      let T = table_of s in
      let p = s.sections.places in
      let q = s.sections.resources in
      let n = s.sections.count in
      let gone : without (section i r) (sections_of s.sections) ≡ sections_of o =
      section_removed p q i r n k o.places o.resources C.places C.resources C.found ∙ ap (sections_by o.places o.resources) (sym C.count) in
      rw (is_there p q i r n k o.places o.resources C.places C.resources C.found, gone)
      (ap (λ f. record { entry = f; sections = sections_of o }) (fun_ext (woken_entry s states (top T 0 (sections_of o)) C.wakes)))

-- ---- the call

-- the section is closed after the entry is freed
pub unlock_done : {s t : Scheduler} {p n r i : ℕ} → Grants s (unlock p n r) i
    → state_of t ≡ closed (has (section i r) (sections_of s.sections)) (table_of s) (section i r)
    (state_of (record s { entries = record s.entries { held = set s.entries.held i 0 } }))
    → Beside (record s { entries = record s.entries { held = set s.entries.held i 0 } }) t → Done s t (unlock p n r) i
unlock_done {s} {t} {p} {n} {r} {i} G e B =
    let held = s.entries.held in
    let u = section i r in
    record {
      fits = G.fits;
      grants = G.grants;
      acts = e
          ∙ ap (λ f. closed (has u (sections_of s.sections)) (table_of s) u (record { entry = f; sections = sections_of s.sections }))
          (stored (entry_of s) _ i (freed (entry_of s i)) (rw (get_or-set_same held i 0 0 (omega (arith, G.sized.held, G.place))))
          (λ k ne. rw (get_or-set_other held i k 0 0 ne)));
      beside = record { same = B.same; numbers = B.numbers; places = B.places; resources = B.resources };
    }
