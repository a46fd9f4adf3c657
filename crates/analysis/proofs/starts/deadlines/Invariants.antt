-- The loop of `analysis::starts::deadlines`.
use lib.ListN.{take}
use mathlib.Core.Path.{◌≡◌}
use Rattle.searches.specs.Indexed.{every}
use Rattle.analysis.specs.Rounding.{deadline_of}
use Rattle.analysis.proofs.starts.deadlines.Given as goal

abbrev pub invariant-loop-i : goal.invariant-loop-i
invariant-loop-i l = take l.i l.vector ≡ every (deadline_of l.table.bytes.now) l.i 0
