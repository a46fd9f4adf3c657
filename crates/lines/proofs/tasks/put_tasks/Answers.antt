-- What is left of `lines::tasks::put_tasks`.
use native.Mathlib.Omega.{arith}
use Rattle.words.proofs.Pages.{room_onward}
use Rattle.lines.proofs.Puts.{task_lines_few}
use Rattle.lines.proofs.tasks.put_tasks.Goals as goal

pub put_task-requires : goal.put_task-requires
put_task-requires c =
    let few = task_lines_few c.args.bytes.now c.args.analysis.now c.loop-i.i in
    rw (c.loop-i.invariant, room_onward) (omega (arith, few, c.requires.room, c.loop-i-test.true))
