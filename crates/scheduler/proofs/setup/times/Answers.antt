-- What is left of `scheduler::setup::times`.
use Rattle.scheduler.proofs.Loading.{times_start, times_next}
use Rattle.scheduler.proofs.setup.times.Goals as goal

pub loop-j-init : goal.loop-j-init
loop-j-init c = times_start c.args.table.now.bytes.now c.args.table.now.shape.tasks c.args.table.now.shape.uses_at

pub loop-j-preserved : goal.loop-j-preserved
loop-j-preserved c =
    let table = c.args.table.now in
    cc (
      times_next table.bytes.now table.shape table.well_formed c.loop-j.j c.loop-j-test.true c.usage-usage.result c.place_of-place.result
          c.from-k.result c.usage-usage.ensures c.place_of-place.ensures c.from-k.ensures,
      c.loop-j.invariant,
    )
