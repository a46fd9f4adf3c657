-- The loop of `lines::tasks::put_tasks`.
use Rattle.lines.specs.Lines.{task_lines}
use Rattle.words.specs.Pages.{Puts}
use Rattle.lines.proofs.tasks.put_tasks.Given as goal

abbrev pub invariant-loop-i : goal.invariant-loop-i
invariant-loop-i l = Puts l.initial.page (task_lines l.bytes l.analysis l.i) l.page
