-- What is left of `scheduler::Scheduler::release`.
use Rattle.std.proofs.Common.{ap, ◌∙◌}
use Rattle.protocol.specs.Checks.{release}
use Rattle.scheduler.proofs.Sizes.{sized}
use Rattle.scheduler.proofs.Ends.{refused_replied, granted_replied}
use Rattle.scheduler.proofs.Asking.{grants_index}
use Rattle.arrays.specs.View.{own_number}
use Rattle.scheduler.proofs.Doing.{release_done}
use Rattle.scheduler.proofs.Scheduler.release.Goals as goal

pub returns-in-Err : goal.returns-in-Err
returns-in-Err c =
    c.refused.ensures ∙ refused_replied (release c.args.priority) (sized c.args.self c.well_formed.0) c.in-Err.ensures.same

pub returns : goal.returns
returns c =
    let G = grants_index c.index-at.ensures.0 (sized c.args.self c.well_formed.0) c.in-Ok.ensures in
    c.settled.ensures.told ∙ granted_replied c.settled.ensures.sized (release_done G (rw c.index-at.ensures.0 (c.number.ensures ∙ ap own_number c.admission.ensures)) (rw c.index-at.ensures.0 c.clear.ensures.cleared) c.clear.ensures.rest)
