-- What is left of `scheduler::Scheduler::ceiling`.
use Rattle.std.proofs.Common.{ap, ◌∙◌}
use Rattle.arrays.specs.View.{tasks_of}
use Rattle.arrays.proofs.Opened.{ceiling_or, last_ceiling}
use Rattle.scheduler.proofs.Scheduler.ceiling.Goals as goal

pub returns-in-Some : goal.returns-in-Some
returns-in-Some c =
    let s = c.args.self.now in
    c.ceiling.ensures ∙ ap (ceiling_or (tasks_of s.tasks)) c.in-Some.ensures
    ∙ last_ceiling (tasks_of s.tasks) s.sections.places s.sections.resources s.sections.count

pub returns-in-None : goal.returns-in-None
returns-in-None c =
    let s = c.args.self.now in
    ap (ceiling_or (tasks_of s.tasks)) c.in-None.ensures
    ∙ last_ceiling (tasks_of s.tasks) s.sections.places s.sections.resources s.sections.count
