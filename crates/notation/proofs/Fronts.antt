-- So many bytes decide what the programs print: 8,192 of a table, 262,145 of a text.
use Prim.Native.Nat.{ℕ, ◌≤◌}
use mathlib.Core.Path.{◌≡◌, refl, sym, ap, ◌∙◌}
use mathlib.Core.List.{List}
use native.Mathlib.Decide.{dec_le}
use native.Mathlib.Omega.{arith}
use lib.ListN.{length, take}
use lib.Seq.{take_all, length-take-le}
use Rattle.table.specs.Reading.{Reading}
use Rattle.std.specs.Prelude.{Ok, Err}
use Rattle.table.specs.Reading.{read_table}
use Rattle.table.proofs.Accepted.{well_formed}
use Rattle.table.proofs.Decided.{front_decides}
use Rattle.notation.specs.Packing.{Outcome}
use Rattle.notation.specs.Showing.{shown_by, shown}
use Rattle.notation.specs.Faults.{printed_by, pack_printed}
use Rattle.notation.proofs.Answers.{too_long}

-- what show prints of the front of an input is what it prints of the whole
pub front_shown : (s : List ℕ) → shown (take 8192 s) ≡ shown s
unfolding shown
front_shown s = ap (λ (r : Reading). shown_by r (take 8192 s)) (front_decides s 8192 (omega arith)) ∙ go (read_table s) refl
  where
    go : (r : Reading) → read_table s ≡ r → shown_by r (take 8192 s) ≡ shown_by r s
    go (Ok h) e =
        let f = well_formed s h e in
        ap (shown_by (Ok h)) (take_all 8192 s (omega (arith, f.whole, f.start, f.tasks_most, f.uses_most)))
    go (Err r) e = refl

-- and so for pack, since a longer text is a fault whatever is in it
pub front_packed : (t : List ℕ) → pack_printed (take 262145 t) ≡ pack_printed t
front_packed t = go (dec_le (length t) 262145)
  where
    go : Dec (length t ≤ 262145) → pack_printed (take 262145 t) ≡ pack_printed t
    go (yes l) = ap pack_printed (take_all 262145 t l)
    go (no n) =
        ap (λ (o : Outcome). printed_by o.packing (take 262145 t) o.bytes) (too_long (take 262145 t) (omega (arith, length-take-le 262145 t (omega arith))))
        ∙ ap (λ (o : Outcome). printed_by o.packing t o.bytes) (sym (too_long t (omega arith)))
