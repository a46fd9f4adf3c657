-- A scheduler that keeps what the view doesn't show is its own view written back.
use mathlib.Core.Path.{◌≡◌, refl, sym, ◌∙◌}
use mathlib.Core.List.{List, [], ◌∷◌, ◌++◌}
use mathlib.Core.Bool.{true, false}
use Prim.Native.Nat.{ℕ, zero, suc, ◌+◌, ◌*◌, ◌/◌, ◌%◌, ◌≤◌, ◌<◌}
use native.Mathlib.Omega.{arith}
use native.Mathlib.Numerals.{add-one}
use native.Mathlib.Nat.{div-add-mod', mod-lt}
use native.Mathlib.Decide.{ℕ_discrete, dec_lt}
use lib.Dec.{leb}
use lib.ListN.{length, get_or, get_or-append}
use lib.Seq.{get_or_at}
use borrow.Author.Tests.{lt-ltb, le-ltb, le-leb}
use Rattle.searches.specs.Searches.{only}
use Rattle.protocol.specs.State.{Status, none, ready, waiting, asleep, Section}
use Rattle.protocol.specs.Acting.{section}
use Rattle.searches.proofs.Indexed.{listed}
use Rattle.arrays.specs.View.{status_of, count_of, sections_by}
use Rattle.arrays.proofs.Opened.{sections_length}
use Rattle.scheduler.specs.declared.Scheduler.{Scheduler}
use Rattle.scheduler.specs.View.{Sized, state_of}
use Rattle.scheduler.specs.Beside.{Beside}
use Rattle.scheduler.specs.Replies.{says, number_for, slot_for, written}

-- ---- what the view doesn't show

-- a status is the same as itself
says_own : (x : Status) → says x x ≡ true
says_own none = refl
says_own ready = refl
says_own waiting = refl
says_own asleep = refl

-- a number stays where it says the status
pub number_kept : (n : ℕ) → n ≡ number_for n (status_of n)
number_kept n = rw (says_own (status_of n))

-- a slot past the open sections stays
pub slot_same : (n k x : ℕ) → n ≤ k → x ≡ only (leb n k) x
slot_same n k x le = rw (le-leb n k le)

-- a scheduler as it was
pub beside_self : (s : Scheduler) → Beside s s
beside_self s = record {
  same = refl;
  numbers = λ k. number_kept (get_or s.entries.states k 0);
  places = λ k le. slot_same s.sections.count k (get_or s.sections.places k 0) le;
  resources = λ k le. slot_same s.sections.count k (get_or s.sections.resources k 0) le;
}

-- ---- an array by its places

-- the counts by place and resource
count_again : (l : List ℕ) (k : ℕ) → get_or l k 0 ≡ count_of l (k / 16) (k % 16 + 1)
count_again l k =
    let lt : k % 16 < 16 = mod-lt k (omega arith) in
    let e : k / 16 * 16 + k % 16 ≡ k = div-add-mod' k 16 in
    rw (add-one, lt-ltb (k % 16) 16 lt, e)

-- the section that is open in a slot
pub section_at : (p r : List ℕ) (n k : ℕ) → k < n → get_or (sections_by p r n) k (section 0 0) ≡ section (get_or p k 0) (get_or r k 0)
unfolding sections_by
section_at p r zero k h = absurd (omega arith)
section_at p r (suc n) k h = go (ℕ_discrete k n) (section_at p r n k)
  where
    go : Dec (k ≡ n) → (k < n → get_or (sections_by p r n) k (section 0 0) ≡ section (get_or p k 0) (get_or r k 0))
        → get_or (sections_by p r n ++ (section (get_or p n 0) (get_or r n 0) ∷ [])) k (section 0 0) ≡ section (get_or p k 0) (get_or r k 0)
    go (yes e) more = rw e (get_or_at (sections_by p r n) (section (get_or p n 0) (get_or r n 0)) [] (section 0 0) n (sections_length p r n))
    go (no ne) more =
        get_or-append (sections_by p r n) (section (get_or p n 0) (get_or r n 0) ∷ []) (section 0 0) k (omega (arith, sections_length p r n))
        ∙ more (omega arith)

module _ (p r : List ℕ) (n m : ℕ) (field : Section → ℕ) (l before : List ℕ) (own : (k : ℕ) → field (section (get_or p k 0) (get_or r k 0)) ≡ get_or l k 0)
    (past : (k : ℕ) → n ≤ k → get_or l k 0 ≡ only (leb m k) (get_or before k 0)) where
  -- a slot by the open sections
  slot_again : (k : ℕ) → get_or l k 0 ≡ slot_for field (sections_by p r n) m before k
  slot_again k = go (dec_lt k n)
    where
      go : Dec (k < n) → get_or l k 0 ≡ slot_for field (sections_by p r n) m before k
      go (yes lt) = rw (sections_length p r n, lt-ltb k n lt, section_at p r n k lt) (sym (own k))
      go (no ge) = rw (sections_length p r n, le-ltb k n (omega arith)) (past k (omega arith))

-- ---- the whole

-- what keeps all that the view doesn't show is its own view, written back
pub written_again : {s t : Scheduler} → Sized t → Beside s t → t ≡ written s (state_of t)
written_again {s} {t} Z B =
    let e = t.entries in
    let o = t.sections in
    let count : o.count ≡ length (state_of t).sections = sym (sections_length o.places o.resources o.count) in
    let states = listed e.states 0 32 _ Z.states (λ k lt. B.numbers k) in
    let started = listed e.started false 32 (λ k. ((state_of t).entry k).started) Z.started (λ k lt. refl) in
    let sleeps = listed e.sleeps 0 32 (λ k. ((state_of t).entry k).sleeps) Z.sleeps (λ k lt. refl) in
    let opened = listed e.opened 0 512 _ Z.opened (λ k lt. count_again e.opened k) in
    let held = listed e.held 0 32 (λ k. ((state_of t).entry k).held) Z.held (λ k lt. refl) in
    let serials = listed e.serials 0 32 (λ k. ((state_of t).entry k).next) Z.serials (λ k lt. refl) in
    let slots = slot_again o.places o.resources o.count s.sections.count in
    let places = listed o.places 0 16 _ Z.places (λ k lt. slots (λ u. u.place) o.places s.sections.places (λ j. refl) B.places k) in
    let resources = listed o.resources 0 16 _ Z.resources
    (λ k lt. slots (λ u. u.resource) o.resources s.sections.resources (λ j. refl) B.resources k) in
    λ i. record {
      tasks = B.same i;
      entries = record { states = states i; started = started i; sleeps = sleeps i; opened = opened i; held = held i; serials = serials i };
      sections = record { count = count i; places = places i; resources = resources i };
    }
