-- What is left of `analysis::turns::Rounds::solve`.
use mathlib.Core.Path.{sym, ap, ◌∙◌}
use native.Mathlib.Omega.{arith}
use Rattle.table.specs.declared.Task.{Task}
use Rattle.rounds.specs.Rounds.{reply}
use Rattle.rounds.proofs.SolverLoop.{climbing_spent, climbing_found}
use Rattle.analysis.specs.Seen.{equations_in}
use Rattle.analysis.proofs.Table.{side_rises, begins}
use Rattle.analysis.proofs.Climbs.{solving_next}
use Rattle.analysis.proofs.turns.Rounds.solve.Goals as goal

pub loop-t-init : goal.loop-t-init
loop-t-init c =
    let deadline = c.from-deadline.ensures ∙ ap (λ (t : Task). t.deadline) c.task-task.ensures in
    let run = c.from.ensures ∙ ap (λ (t : Task). t.run) c.task-task.ensures in
    let sleep = c.from-2.ensures ∙ ap (λ (t : Task). t.sleep) c.task-task.ensures in
    rw (deadline, run, sleep) (begins c.args.self.now.listed.equations c.args.vector.now c.args.kept.now c.args.query c.requires.solvable
    c.args.made c.args.self.now.allowance c.requires.made_le_allowance)

pub returns-then-self-evaluations : goal.returns-then-self-evaluations
returns-then-self-evaluations c =
    climbing_spent ((equations_in c.args.self.now.listed.equations).side c.args.query.task c.args.vector.now) c.from-deadline.result
    c.args.self.now.allowance (reply (equations_in c.args.self.now.listed.equations) c.args.query.task c.args.vector.now c.args.made) c.loop-t.t
    c.loop-t.evaluations (c.loop-t.invariant.climbing c.loop-t-test.true) c.if-self-evaluations.true

pub returns-then-side-t : goal.returns-then-side-t
returns-then-side-t c = (
  sym (climbing_found ((equations_in c.args.self.now.listed.equations).side c.args.query.task c.args.vector.now) c.from-deadline.result
      c.args.self.now.allowance (reply (equations_in c.args.self.now.listed.equations) c.args.query.task c.args.vector.now c.args.made) c.loop-t.t
      c.loop-t.evaluations (c.loop-t.invariant.climbing c.loop-t-test.true) c.right_side-side.result c.right_side-side.ensures.0 c.if-side-t.true),
  omega arith,
)

pub loop-t-preserved : goal.loop-t-preserved
loop-t-preserved c =
    solving_next ((equations_in c.args.self.now.listed.equations).side c.args.query.task c.args.vector.now) c.from-deadline.result
    c.args.self.now.allowance (reply (equations_in c.args.self.now.listed.equations) c.args.query.task c.args.vector.now c.args.made) c.loop-t.t
    c.loop-t.evaluations c.right_side-side.result c.loop-t.invariant c.loop-t-test.true c.right_side-side.ensures.0 c.if-side-t.false
    (side_rises c.args.self.now.listed.equations c.args.vector.now c.args.kept.now c.args.query c.requires.solvable) c.if-self-evaluations.false
