-- What is left of `held::loader::filled`.
use Prim.Native.Nat.{ℕ, ◌+◌, ◌*◌}
use mathlib.Core.Path.{refl, ap}
use native.Mathlib.Nat.{zero-add}
use Rattle.table.specs.Fields.{no_task, no_use, task_at}
use Rattle.table.specs.WellFormed.{task_of, use_of}
use Rattle.held.proofs.Loads.{filled_up}
use Rattle.held.proofs.loader.filled.Goals as goal

pub returns : goal.returns
returns c =
    let s = c.args.bytes.now in
    let h = c.args.shape in
    let tasks =
    filled_up (task_of s) (λ (i : ℕ). task_at s (0 + 20 * i)) no_task c.no_task-tasks.result 32 h.tasks c.load_all.new.out (λ j. ap (task_at s) (zero-add (20 * j)))
    c.no_task-tasks.ensures c.requires.0 c.load_all.ensures in
    let uses =
    filled_up (use_of s h.uses_at) (use_of s h.uses_at) no_use c.no_use-uses.result 512 h.uses c.load_all-2.new.out (λ j. refl)
    c.no_use-uses.ensures c.requires.2 c.load_all-2.ensures in
    λ k. record { tasks = tasks k; task_count = h.tasks; uses = uses k; use_count = h.uses }
