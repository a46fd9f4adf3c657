-- What is left of `analysis::turns::Rounds::one_round`.
use native.Mathlib.Omega.{arith}
use Rattle.std.proofs.lemmas.Result.{err_from_is_err_and}
use Rattle.rounds.proofs.RoundLoop.{turned_start}
use Rattle.analysis.specs.Seen.{equations_in}
use Rattle.analysis.specs.Rounding.{progress}
use Rattle.analysis.proofs.Turning.{way_sized, solvable, spent_round, next_turn, done_round}
use Rattle.analysis.proofs.turns.Rounds.one_round.Goals as goal

pub loop-i-init : goal.loop-i-init
loop-i-init c = record {
  turned = turned_start (equations_in c.args.self.now.listed.equations) (progress c.args.vector.now c.args.made) c.args.self.now.allowance
      c.requires.made_le_allowance c.requires.on_way;
  long = c.told-bounds;
  marks = c.requires.marks;
  marked = λ j l. absurd (omega arith);
}

pub solve-requires-clause-solvable : goal.solve-requires-clause-solvable
solve-requires-clause-solvable c =
    solvable c.args.self.now.listed.equations c.loop-i.vector c.loop-i.invariant.turned.way c.loop-i.i c.asked-query.new.kept c.asked-query.result
    c.loop-i-test.true c.asked-query.ensures

pub returns-in_err-reply : goal.returns-in_err-reply
returns-in_err-reply c = let p = err_from_is_err_and c.from_residual.result c.from_residual.ensures.1 in
    rw p.1 (spent_round c.args.self.now.listed.equations c.loop-i.vector (progress c.args.vector.now c.args.made) c.args.self.now.allowance c.loop-i.i
    c.loop-i.evaluations c.loop-i.changed c.loop-i.bounds c.loop-i.invariant c.loop-i-test.true
    (rw c.asked-query.ensures.task at c.in_err-reply.ensures) c.loop-i.vector _)

pub lower-changed-requires : goal.lower-changed-requires
lower-changed-requires c =
    omega (arith, way_sized c.args.self.now.listed.equations c.loop-i.vector c.loop-i.invariant.turned.way)

pub loop-i-preserved : goal.loop-i-preserved
loop-i-preserved c =
    next_turn c.args.self.now.listed.equations c.loop-i.vector (progress c.args.vector.now c.args.made) c.args.self.now.allowance c.loop-i.i
    c.loop-i.evaluations c.loop-i.changed c.loop-i.bounds c.loop-i.invariant c.loop-i-test.true c.in_ok-reply.reply
    (rw c.asked-query.ensures.task at c.in_ok-reply.ensures.0) c.in_ok-reply.ensures.1 c.is_some.result c.is_some.ensures
    c.lower-changed.new.vector c.lower-changed.result c.lower-changed.ensures

pub returns-then-changed : goal.returns-then-changed
returns-then-changed c = record {
  marks = c.loop-i.invariant.marks;
  says = rw c.if-changed.true at (done_round c.args.self.now.listed.equations c.loop-i.vector (progress c.args.vector.now c.args.made)
      c.args.self.now.allowance c.loop-i.i c.loop-i.evaluations c.loop-i.changed c.loop-i.bounds c.loop-i.invariant c.loop-i-test.false);
}

pub returns-else-changed : goal.returns-else-changed
returns-else-changed c = record {
  marks = c.loop-i.invariant.marks;
  says = rw c.if-changed.false at (done_round c.args.self.now.listed.equations c.loop-i.vector (progress c.args.vector.now c.args.made)
      c.args.self.now.allowance c.loop-i.i c.loop-i.evaluations c.loop-i.changed c.loop-i.bounds c.loop-i.invariant c.loop-i-test.false);
}
