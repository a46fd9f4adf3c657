-- The loop of `analysis::turns::Rounds::all_rounds`.
use Rattle.rounds.specs.Vector.{sum}
use Rattle.rounds.specs.RoundsLoop.{Going}
use Rattle.analysis.specs.Seen.{equations_in}
use Rattle.analysis.specs.Rounding.{progress, Marks}
use Rattle.analysis.proofs.turns.Rounds.all_rounds.Given as goal

abbrev pub invariant-loop-evaluations : goal.invariant-loop-evaluations
invariant-loop-evaluations l = Going (equations_in l.self.listed.equations) l.self.allowance (progress l.vector l.made) × Marks l.self.listed.equations.table.shape.tasks l.bounds

abbrev pub decreases-loop-evaluations : goal.decreases-loop-evaluations
decreases-loop-evaluations l = sum l.vector
