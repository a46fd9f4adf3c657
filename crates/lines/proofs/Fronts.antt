-- The bounds program reads 8,192 bytes at most: what it prints of them is what it would print of the whole input.
use Prim.Native.Nat.{ℕ, ◌<◌}
use mathlib.Core.Path.{◌≡◌, refl, sym, ap, ◌∙◌}
use mathlib.Core.List.{List}
use lib.ListN.{length, take}
use lib.Seq.{take_all}
use native.Mathlib.Omega.{arith}
use native.Mathlib.Decide.{dec_lt}
use Rattle.table.specs.declared.Refusal.{Refusal}
use Rattle.std.specs.Prelude.{Ok, Err}
use Rattle.table.specs.Reading.{Reading, read_table}
use Rattle.table.proofs.Accepted.{well_formed}
use Rattle.table.proofs.Decided.{front_decides}
use Rattle.analysis.specs.Analysing.{refused_by, analysed_as}
use Rattle.lines.specs.Lines.{task_lines, lines_of, printed}

-- of refused bytes only the refusal is printed
refused_printed : (s : List ℕ) (allowance : ℕ) (f : Refusal) → read_table s ≡ Err f → printed s allowance ≡ lines_of s (refused_by f)
unfolding analysed_as
refused_printed s allowance f e = ap (λ (r : Reading). lines_of s (analysed_as r s allowance)) e

-- whatever the bytes are
refusal_alone : (s r : List ℕ) (f : Refusal) → lines_of r (refused_by f) ≡ lines_of s (refused_by f)
unfolding task_lines
refusal_alone s r f = refl

-- the front of an input decides what is printed of it
pub front_printed : (s : List ℕ) (allowance : ℕ) → printed (take 8192 s) allowance ≡ printed s allowance
front_printed s allowance = go (dec_lt 8192 (length s))
  where
    longer : 8192 < length s → (r : Reading) → read_table s ≡ r → printed (take 8192 s) allowance ≡ printed s allowance
    longer lt (Ok h) e =
        let W = well_formed s h e in
        absurd (omega (arith, W.whole, W.start, W.tasks_most, W.uses_most))
    longer lt (Err f) e =
        refused_printed (take 8192 s) allowance f (front_decides s 8192 (omega arith) ∙ e)
        ∙ refusal_alone s (take 8192 s) f
        ∙ sym (refused_printed s allowance f e)

    go : Dec (8192 < length s) → printed (take 8192 s) allowance ≡ printed s allowance
    go (yes lt) = longer lt (read_table s) refl
    go (no ge) = ap (λ (l : List ℕ). printed l allowance) (take_all 8192 s (omega arith))
