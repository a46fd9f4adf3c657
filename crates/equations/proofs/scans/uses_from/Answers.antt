-- What is left of `equations::scans::uses_from`.
use Rattle.equations.proofs.Scanned.{seeking_next}
use Rattle.equations.proofs.scans.uses_from.Goals as goal

pub loop-size-preserved : goal.loop-size-preserved
loop-size-preserved c =
    let table = c.args.table.now in
    seeking_next table.bytes.now table.shape table.well_formed c.args.least c.loop-size.low c.loop-size.size c.loop-size.invariant
    c.loop-size-test.true c.beyond-low.result c.beyond-low.ensures
