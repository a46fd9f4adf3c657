-- What is left of `analysis::starts::deadlines`.
use mathlib.Core.Path.{refl, ap, ◌∙◌}
use native.Mathlib.Omega.{arith}
use Rattle.table.specs.declared.Task.{Task}
use Rattle.searches.specs.Indexed.{every}
use Rattle.analysis.specs.Rounding.{deadline_of}
use Rattle.analysis.proofs.Starting.{front_next}
use Rattle.analysis.proofs.starts.deadlines.Goals as goal

pub loop-i-init : goal.loop-i-init
unfolding every
loop-i-init c = refl

pub loop-i-preserved : goal.loop-i-preserved
loop-i-preserved c =
    front_next (deadline_of c.args.table.now.bytes.now) c.loop-i.vector c.loop-i.i c.from.result (omega arith) c.loop-i.invariant
    (c.from.ensures ∙ ap (λ (t : Task). t.deadline) c.task.ensures)
