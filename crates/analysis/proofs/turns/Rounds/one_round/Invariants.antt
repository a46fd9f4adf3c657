-- The loop of `analysis::turns::Rounds::one_round`.
use Rattle.analysis.specs.Seen.{equations_in}
use Rattle.analysis.specs.Rounding.{progress}
use Rattle.analysis.proofs.Turning.{Standing}
use Rattle.analysis.proofs.turns.Rounds.one_round.Given as goal

abbrev pub invariant-loop-i : goal.invariant-loop-i
invariant-loop-i l = Standing l.self.listed.equations.table.shape.tasks (equations_in l.self.listed.equations) (progress l.initial.vector l.made) l.self.allowance l.i (progress l.vector l.evaluations) l.changed l.bounds
