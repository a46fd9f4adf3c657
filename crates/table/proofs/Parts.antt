-- The record of a task as a part of an accepted table's bytes.
use Prim.Native.Nat.{ℕ, ◌+◌, ◌*◌, ◌-◌, ◌≤◌, ◌<◌}
use mathlib.Core.Path.{◌≡◌, sym, ap, ◌∙◌}
use mathlib.Core.List.{List, []}
use lib.ListN.{length, take, drop}
use native.Mathlib.Omega.{arith}
use borrow.Author.Tests.{lt-ltb, le-ltb}
use Rattle.table.specs.declared.Shape.{Shape}
use Rattle.table.specs.declared.Refusal.{Refusal}
use Rattle.std.specs.Prelude.{Ok, Err}
use Rattle.table.specs.Rules.{place_from}
use Rattle.table.specs.Reading.{Reading, read_table}
use Rattle.table.specs.Records.{record_in, record_of}
use Rattle.table.proofs.Accepted.{well_formed}

-- the tasks' records and the end record are within the bytes
pub tasks_within : (s : List ℕ) (h : Shape) → read_table s ≡ Ok h → (20 * h.tasks + 1 ≤ length s) × (h.tasks ≤ 32)
tasks_within s h e = let w = well_formed s h e in (omega (arith, w.start, w.whole), w.tasks_most)

-- a refused table has no record
pub record_refused : (s : List ℕ) (p : ℕ) (f : Refusal) → read_table s ≡ Err f → [] ≡ record_of s p
unfolding record_in
record_refused s p f e = sym (ap (λ (r : Reading). record_in r s p) e)

module _ (s : List ℕ) (p i : ℕ) (h : Shape) (e : read_table s ≡ Ok h) (found : i ≡ place_from (h.tasks - 0) s 0 p) where
  at_place : i ≡ place_from h.tasks s 0 p
  at_place = let z : h.tasks - 0 ≡ h.tasks = omega arith in found ∙ ap (λ (n : ℕ). place_from n s 0 p) z

  -- the 20 bytes of the task that is found
  pub record_found : i < h.tasks → take (20 * i + 20 - 20 * i) (drop (20 * i) s) ≡ record_of s p
  unfolding record_in
  record_found lt =
      let z : 20 * i + 20 - 20 * i ≡ 20 = omega arith in
      sym (ap (λ (r : Reading). record_in r s p) e ∙ rw (← at_place, lt-ltb i h.tasks lt, z))

  -- none where no task has the priority
  pub record_absent : h.tasks ≤ i → [] ≡ record_of s p
  unfolding record_in
  record_absent le = sym (ap (λ (r : Reading). record_in r s p) e ∙ rw (← at_place, le-ltb i h.tasks le))
