-- What is left of `equations::Listed::asked`.
use Prim.Native.Nat.{◌+◌}
use mathlib.Core.Path.{refl, ap, ◌∙◌}
use Rattle.table.specs.declared.Task.{Task}
use Rattle.equations.proofs.Middle.{extra_is}
use Rattle.equations.proofs.Words.{kept_blocks}
use Rattle.equations.proofs.Listed.asked.Goals as goal

pub returns : goal.returns
returns c =
    let L = c.args.self.now in
    let E = L.equations in
    let T = E.table in
    let sleeps = ap (λ (t : Task). t.sleeps) c.task-task.ensures in
    let priority = ap (λ (t : Task). t.priority) c.task-task.ensures in
    let first = rw (c.from.ensures, priority) at c.uses_from-first.ensures in
    let end = rw c.from-2.ensures at c.uses_from-end.ensures in
    record {
      task = refl;
      sleeps = sleeps;
      kept = rw (← (c.from-3.ensures ∙ sleeps)) (kept_blocks T.bytes.now T.shape E.settings.now c.args.place L.ceilings.now
          (record {
            priority = c.task-task.result.priority;
            first = c.uses_from-first.result;
            end = c.uses_from-end.result;
            most = c.from-3.result + 1;
          }) first end priority T.well_formed L.listed (c.from-3.result + 1) _ _ c.keep_all.ensures);
      extra = extra_is T.bytes.now T.shape E.settings.now c.args.place c.uses_from-first.result c.uses_from-end.result first end L.ceilings.now
          c.extra.result T.well_formed L.listed (rw (c.max.ensures, priority) at c.extra.ensures);
    }
