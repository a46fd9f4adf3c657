-- The loop of `analysis::turns::Rounds::solve`.
use Prim.Native.Nat.{◌+◌, ◌-◌}
use Rattle.rounds.specs.Rounds.{reply}
use Rattle.analysis.specs.Seen.{equations_in}
use Rattle.analysis.proofs.Climbs.{Solving}
use Rattle.analysis.proofs.turns.Rounds.solve.Given as goal

abbrev pub invariant-loop-t : goal.invariant-loop-t
invariant-loop-t l = Solving ((equations_in l.self.listed.equations).side l.query.task l.vector) l.deadline l.self.allowance (reply (equations_in l.self.listed.equations) l.query.task l.vector l.made) l.t l.evaluations

abbrev pub decreases-loop-t : goal.decreases-loop-t
decreases-loop-t l = l.deadline + 1 - l.t
