-- What is left of `scheduler::Scheduler::lock`.
use Rattle.std.proofs.Common.{◌∙◌}
use Rattle.protocol.specs.Checks.{lock}
use Rattle.scheduler.proofs.Sizes.{sized}
use Rattle.scheduler.proofs.Ends.{refused_replied, granted_replied}
use Rattle.scheduler.proofs.Asking.{grants_index}
use Rattle.scheduler.proofs.Opening.{lock_done}
use Rattle.scheduler.proofs.Scheduler.lock.Goals as goal

pub returns-in-Err : goal.returns-in-Err
returns-in-Err c =
    c.refused.ensures ∙ refused_replied (lock c.args.job.priority c.args.job.serial c.args.resource) (sized c.args.self c.well_formed.0) c.in-Err.ensures.ruled.same

pub returns : goal.returns
returns c =
    let G = grants_index c.index-at.ensures.0 (sized c.args.self c.well_formed.0) c.in-Ok.ensures.ruled in
    c.settled.ensures.told ∙ granted_replied c.settled.ensures.sized (lock_done G c.in-Ok.ensures.room.0 (rw c.index-at.ensures.0 c.count_one_more.ensures.counted) c.count_one_more.ensures.rest)
