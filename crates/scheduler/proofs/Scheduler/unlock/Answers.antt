-- What is left of `scheduler::Scheduler::unlock`.
use Rattle.std.proofs.Common.{◌∙◌}
use Rattle.protocol.specs.Checks.{unlock}
use Rattle.scheduler.proofs.Sizes.{sized}
use Rattle.scheduler.proofs.Ends.{refused_replied, granted_replied}
use Rattle.scheduler.proofs.Asking.{grants_index}
use Rattle.scheduler.proofs.Closing.{unlock_done}
use Rattle.scheduler.proofs.Scheduler.unlock.Goals as goal

pub returns-in-Err : goal.returns-in-Err
returns-in-Err c =
    c.refused.ensures ∙ refused_replied (unlock c.args.job.priority c.args.job.serial c.args.resource) (sized c.args.self c.well_formed.0) c.in-Err.ensures.same

pub returns : goal.returns
returns c =
    let G = grants_index c.index-at.ensures.0 (sized c.args.self c.well_formed.0) c.in-Ok.ensures in
    c.settled.ensures.told ∙ granted_replied c.settled.ensures.sized (unlock_done G c.close.ensures.closed c.close.ensures.beside)
