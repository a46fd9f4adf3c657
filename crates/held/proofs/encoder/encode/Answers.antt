-- What is left of `held::encoder::encode`.
use Prim.Native.Nat.{ℕ}
use mathlib.Core.List.{List, ◌++◌}
use mathlib.Core.Path.{◌≡◌, ap, ◌∙◌}
use lib.ListN.{length, take}
use native.Mathlib.Omega.{arith}
use Rattle.table.specs.Fields.{no_task, no_use}
use Rattle.held.specs.Writing.{task_bytes, use_bytes, part_bytes, task_part, use_part, encode}
use Rattle.held.proofs.Puts.{put_end}
use Rattle.held.proofs.encoder.encode.Goals as goal

pub returns : goal.returns
unfolding encode
returns c =
    let t = c.args.table.now in
    let tasks : length t.tasks ≡ 32 = omega arith in
    let uses : length t.uses ≡ 512 = omega arith in
    let first = c.put_part-start.ensures.front ∙ ap (λ (n : ℕ). part_bytes task_bytes no_task n t.tasks t.task_count) tasks in
    let second =
    c.put_part-end.ensures.front
    ∙ ap (λ (n : ℕ). take c.put_part-start.result c.put_part-start.new.buffer ++ part_bytes use_bytes no_use n t.uses t.use_count) uses in (
      omega arith,
      put_end c.put_part-end.new.buffer c.put_part-end.result (task_part t.tasks t.task_count) (use_part t.uses t.use_count)
          (second ∙ ap (λ (x : List ℕ). x ++ use_part t.uses t.use_count) first) (omega arith),
    )
