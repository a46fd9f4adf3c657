-- What is left of `scheduler::setup::set_up`.
use mathlib.Core.Path.{◌≡◌, subst}
use Rattle.scheduler.specs.Fresh.{fresh_of}
use Rattle.scheduler.proofs.Loading.{set_up_accepted, set_up_refused}
use Rattle.scheduler.proofs.setup.set_up.Goals as goal

pub returns-in-Ok : goal.returns-in-Ok
returns-in-Ok c =
    set_up_accepted c.args.bytes.now _ c.fresh.result c.in-Ok.ensures.1
    (subst (λ s. c.fresh.result ≡ fresh_of s c.in-Ok.table.shape) c.in-Ok.ensures.0 c.fresh.ensures)

pub returns-in-Err : goal.returns-in-Err
returns-in-Err c = set_up_refused c.args.bytes.now _ c.empty.result c.in-Err.ensures c.empty.ensures
