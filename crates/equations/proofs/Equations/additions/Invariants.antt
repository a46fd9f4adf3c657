-- The loop of `equations::Equations::additions`.
use Prim.Native.Nat.{◌≤◌, ◌*◌}
use mathlib.Core.Path.{◌≡◌}
use Rattle.searches.specs.Indexed.{sum_to}
use Rattle.equations.specs.View.{view_of}
use Rattle.equations.specs.Equations.{addition}
use Rattle.equations.proofs.Equations.additions.Given as goal

abbrev pub invariant-loop-j : goal.invariant-loop-j
invariant-loop-j l = (l.sum ≡ sum_to (addition (view_of l.self.table.bytes.now l.self.table.shape l.self.settings.now) l.at.task l.vector l.at.length) l.j) × (l.sum ≤ 2000000000000 * l.j)
