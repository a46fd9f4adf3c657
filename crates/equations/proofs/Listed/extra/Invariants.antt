-- The loop of `equations::Listed::extra`.
use Prim.Native.Nat.{◌≤◌}
use Rattle.equations.specs.Ready.{Longest}
use Rattle.equations.proofs.Listed.extra.Given as goal

abbrev pub invariant-loop-k : goal.invariant-loop-k
invariant-loop-k l = (l.k ≤ l.self.equations.table.shape.uses) × Longest l.self.equations.table.bytes.now l.self.ceilings.now l.self.equations.table.shape.uses_at l.priority l.first l.k l.best
