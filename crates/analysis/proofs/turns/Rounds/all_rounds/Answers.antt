-- What is left of `analysis::turns::Rounds::all_rounds`.
use Rattle.std.proofs.lemmas.Result.{err_from_is_err_and}
use Rattle.analysis.specs.Seen.{equations_in}
use Rattle.analysis.proofs.Table.{lawful_in}
use Rattle.analysis.proofs.Settling.{begins, spent_here, round_on, last_round}
use Rattle.analysis.proofs.turns.Rounds.all_rounds.Goals as goal

pub loop-evaluations-init : goal.loop-evaluations-init
loop-evaluations-init c =
    let E = c.args.self.now.listed.equations in (
      begins (equations_in E) (lawful_in E) c.args.self.now.allowance
          c.args.vector.now 0 c.requires.at_deadlines,
      c.requires.marks,
    )

pub returns-in_err-evaluations : goal.returns-in_err-evaluations
returns-in_err-evaluations c =
    let E = c.args.self.now.listed.equations in
    let p = err_from_is_err_and c.from_residual.result c.from_residual.ensures.1 in
    rw p.1 (record {
      marks = c.in_err-evaluations.ensures.marks;
      says = spent_here (equations_in E) (lawful_in E) c.args.self.now.allowance
          c.loop-evaluations.vector c.loop-evaluations.made c.loop-evaluations.invariant.0 c.in_err-evaluations.ensures.says;
    })

pub loop-evaluations-smaller : goal.loop-evaluations-smaller
loop-evaluations-smaller c =
    let E = c.args.self.now.listed.equations in
    (round_on (equations_in E) (lawful_in E) c.args.self.now.allowance
    c.loop-evaluations.vector c.loop-evaluations.made c.loop-evaluations.invariant.0 c.one_round.new.vector c.one_round.new.bounds
    c.in-Changed.evaluations (rw c.in-Changed.is at c.in_ok-evaluations.ensures.says)).1

pub loop-evaluations-preserved : goal.loop-evaluations-preserved
loop-evaluations-preserved c =
    let E = c.args.self.now.listed.equations in (
      (round_on (equations_in E) (lawful_in E) c.args.self.now.allowance
          c.loop-evaluations.vector c.loop-evaluations.made c.loop-evaluations.invariant.0 c.one_round.new.vector c.one_round.new.bounds
          c.in-Changed.evaluations (rw c.in-Changed.is at c.in_ok-evaluations.ensures.says)).0,
      c.in_ok-evaluations.ensures.marks,
    )

pub returns-in-Still : goal.returns-in-Still
returns-in-Still c =
    let E = c.args.self.now.listed.equations in
    record {
      marks = c.in_ok-evaluations.ensures.marks;
      says = last_round (equations_in E) (lawful_in E) c.args.self.now.allowance
          c.loop-evaluations.vector c.loop-evaluations.made c.loop-evaluations.invariant.0 c.one_round.new.vector c.one_round.new.bounds
          c.in-Still.evaluations (rw c.in-Still.is at c.in_ok-evaluations.ensures.says);
    }
