-- What is left of `scheduler::Scheduler::suspend`.
use Rattle.std.proofs.Common.{◌∙◌}
use Rattle.protocol.specs.Checks.{suspend}
use Rattle.scheduler.proofs.Sizes.{sized}
use Rattle.scheduler.proofs.Ends.{refused_replied, granted_replied}
use Rattle.scheduler.proofs.Asking.{grants_index}
use Rattle.scheduler.proofs.Doing.{suspend_done}
use Rattle.scheduler.proofs.Scheduler.suspend.Goals as goal

pub returns-in-Err : goal.returns-in-Err
returns-in-Err c =
    c.refused.ensures ∙ refused_replied (suspend c.args.job.priority c.args.job.serial) (sized c.args.self c.well_formed.0) c.in-Err.ensures.ruled.same

pub returns : goal.returns
returns c =
    let G = grants_index c.index-at.ensures.0 (sized c.args.self c.well_formed.0) c.in-Ok.ensures.ruled in
    c.settled.ensures.told ∙ granted_replied c.settled.ensures.sized (suspend_done G c.number.ensures)
