-- What is left of `analysis::starts::own_settings`.
use Prim.Native.Nat.{ℕ, ◌-◌}
use lib.ListN.{replicate}
use mathlib.Core.List.{◌++◌}
use mathlib.Core.Path.{◌≡◌, ap, ◌∙◌}
use native.Mathlib.Omega.{arith}
use Rattle.table.specs.declared.Task.{Task}
use Rattle.searches.specs.Indexed.{every}
use Rattle.searches.proofs.Indexed.{fill_start, fill_more}
use Rattle.analysis.proofs.Starting.{setting_of, settings_are}
use Rattle.analysis.proofs.starts.own_settings.Goals as goal

pub loop-i-init : goal.loop-i-init
loop-i-init c = fill_start (setting_of c.args.table.now.bytes.now) 32 0

pub loop-i-preserved : goal.loop-i-preserved
loop-i-preserved c = cc (fill_more (setting_of c.args.table.now.bytes.now) 32 0 c.loop-i.i (omega arith), c.loop-i.invariant, ap (λ (t : Task). t.setting) c.task.ensures)

pub returns : goal.returns
returns c =
    let T = c.args.table.now in
    let e : c.loop-i.i ≡ T.shape.tasks = omega arith in
    c.loop-i.invariant ∙ ap (λ (n : ℕ). every (setting_of T.bytes.now) n 0 ++ replicate (32 - n) 0) e
    ∙ settings_are T.bytes.now T.shape.tasks T.well_formed.tasks_most
