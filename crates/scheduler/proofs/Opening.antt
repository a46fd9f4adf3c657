-- What a granted lock does to the arrays is the machine's: one count more, the resource held, and a section more.
use Rattle.std.proofs.Common.{◌≡◌, ℕ, zero, suc, ◌+◌, ◌<◌, ◌≤◌, List, [], ◌∷◌, ◌++◌, length, get_or, set, leb, refl, sym, subst, ap₂, arith, add-one, get_or-set_same, get_or-set_other, le-leb}
use Rattle.searches.specs.Searches.{only}
use Rattle.protocol.specs.Checks.{lock}
use Rattle.protocol.specs.Acting.{section, locked}
use Rattle.arrays.specs.declared.entries.Entries.{Entries}
use Rattle.arrays.specs.declared.sections.Sections.{Sections}
use Rattle.arrays.specs.View.{sections_by}
use Rattle.arrays.specs.Stores.{Counted}
use Rattle.scheduler.specs.declared.Scheduler.{Scheduler}
use Rattle.scheduler.specs.View.{entry_of}
use Rattle.scheduler.proofs.Written.{number_kept}
use Rattle.scheduler.proofs.Storing.{stored}
use Rattle.scheduler.proofs.Ends.{Done}
use Rattle.scheduler.proofs.Asking.{Grants}

-- ---- a section more

-- a store in a later slot leaves the sections
same_before : (p r : List ℕ) (m x y n : ℕ) → n ≤ m → sections_by (set p m x) (set r m y) n ≡ sections_by p r n
unfolding sections_by
same_before p r m x y zero le = refl
same_before p r m x y (suc n) le =
    rw (same_before p r m x y n (omega arith), get_or-set_other p m n x 0 (omega arith), get_or-set_other r m n y 0 (omega arith))

-- a store in the next slot, counted, is a section more
section_added : (p r : List ℕ) (n x y : ℕ) → n < length p → n < length r
    → sections_by (set p n x) (set r n y) (n + 1) ≡ sections_by p r n ++ (section x y ∷ [])
unfolding sections_by
section_added p r n x y h k = rw (add-one, same_before p r n x y n (omega arith), get_or-set_same p n x 0 h, get_or-set_same r n y 0 k)

-- the slots past it stay
slot_kept : (l : List ℕ) (n x k : ℕ) → n + 1 ≤ k → get_or (set l n x) k 0 ≡ only (leb n k) (get_or l k 0)
slot_kept l n x k le = rw (get_or-set_other l n k x 0 (λ e. omega arith), le-leb n k (omega arith))

-- ---- the call

-- the section is opened
pub lock_done : {s : Scheduler} {p n r i : ℕ} {after : Entries} → Grants s (lock p n r) i → s.sections.count < 16
    → Counted s.entries.opened i r after.opened → after ≡ record s.entries { opened = after.opened; held = set s.entries.held i r }
    → Done s (record {
      tasks = s.tasks;
      entries = after;
      sections = record {
        count = s.sections.count + 1;
        places = set s.sections.places s.sections.count i;
        resources = set s.sections.resources s.sections.count r;
      };
    }) (lock p n r) i
lock_done {s} {p} {n} {r} {i} {after} G room C rest =
    let Z = G.sized in
    let o = s.sections in
    let held = s.entries.held in
    let count = o.count in
    let opened : Sections = record { count = count + 1; places = set o.places count i; resources = set o.resources count r } in
    subst (λ e. Done s (record { tasks = s.tasks; entries = e; sections = opened }) (lock p n r) i) (sym rest) (record {
      fits = G.fits;
      grants = G.grants;
      acts = ap₂ (λ f l. record { entry = f; sections = l })
          (stored (entry_of s) _ i (locked r (entry_of s i)) (rw (get_or-set_same held i r 0 (omega (arith, Z.held, G.place)), C.here))
          (λ k ne. rw (get_or-set_other held i k r 0 ne, C.others k ne)))
          (section_added o.places o.resources count i r (omega (arith, Z.places)) (omega (arith, Z.resources)));
      beside = record {
        same = refl;
        numbers = λ k. number_kept (get_or s.entries.states k 0);
        places = λ k le. slot_kept o.places count i k le;
        resources = λ k le. slot_kept o.resources count r k le;
      };
    })
