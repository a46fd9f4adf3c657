-- What the scans answer is the machine's, on the whole view.
use mathlib.Core.Path.{◌≡◌, sym, ◌∙◌}
use mathlib.Core.Bool.{Bool, true, ◌&&◌}
use Prim.Native.Nat.{ℕ, ◌≤◌, ◌<◌}
use native.Mathlib.Omega.{arith}
use lib.Dec.{leb}
use Rattle.searches.specs.Searches.{all}
use Rattle.protocol.specs.Tasks.{priority, setting}
use Rattle.protocol.specs.Fit.{named, fit}
use Rattle.protocol.proofs.Fitness.{fit_says}
use Rattle.arrays.specs.View.{sections_of, setting_below}
use Rattle.arrays.proofs.Opened.{sections_length, fit_tested}
use Rattle.scheduler.specs.declared.Scheduler.{Scheduler}
use Rattle.scheduler.specs.View.{table_of, entry_of, state_of}

-- A fit state has counts within the arrays, and settings below their priorities.
pub record Fit (s : Scheduler) : Type 0 where
  pub few : s.tasks.count ≤ 32
  pub room : s.sections.count ≤ 16
  pub below : (i : ℕ) → i < s.tasks.count → setting (table_of s) i < priority (table_of s) i
  pub fits : fit (table_of s) (state_of s) ≡ true

-- so says the machine's test
pub fit_known : (s : Scheduler) → fit (table_of s) (state_of s) ≡ true → Fit s
fit_known s e =
    let w = fit_says (table_of s) (state_of s) e in
    record {
      few = w.0;
      room = omega (arith, w.2, sections_length s.sections.places s.sections.resources s.sections.count);
      below = w.1;
      fits = e;
    }

-- The code's tests of the scheduler s, of its tasks and of its sections, came to b.
abbrev pub Tested : Scheduler → Bool → Type 0
Tested s b =
    b ≡ (leb s.tasks.count 32 && all (setting_below (table_of s)) s.tasks.count)
    && (leb s.tasks.count 32 && (leb s.sections.count 16 && named (table_of s) (sections_of s.sections)))

-- they are the machine's
pub tested_fit : (s : Scheduler) (b : Bool) → Tested s b → fit (table_of s) (state_of s) ≡ b
tested_fit s b e = fit_tested s.tasks s.sections (entry_of s) ∙ sym e

-- so say the code's
pub fit_passed : (s : Scheduler) (b : Bool) → Tested s b → b ≡ true → Fit s
fit_passed s b e h = fit_known s (tested_fit s b e ∙ h)
