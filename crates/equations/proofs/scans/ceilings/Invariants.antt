-- The loop of `equations::scans::ceilings`.
use Prim.Native.Nat.{ℕ, ◌≤◌}
use lib.ListN.{length, get_or}
use mathlib.Core.Path.{◌≡◌}
use Rattle.equations.proofs.Scanned.{ceiling_to}
use Rattle.equations.proofs.scans.ceilings.Given as goal

abbrev pub invariant-loop-k : goal.invariant-loop-k
invariant-loop-k l = (length l.found ≡ 32) × ((r : ℕ) → r ≤ 16 → get_or l.found r 0 ≡ ceiling_to l.table.bytes.now l.table.shape.uses_at l.k r)
