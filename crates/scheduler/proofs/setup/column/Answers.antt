-- What is left of `scheduler::setup::column`.
use Rattle.std.proofs.Common.{arith}
use Rattle.scheduler.proofs.Loading.{column_start, column_more}
use Rattle.scheduler.proofs.setup.column.Goals as goal

pub loop-i-init : goal.loop-i-init
loop-i-init c = column_start c.args.bytes.now c.args.field

pub loop-i-preserved : goal.loop-i-preserved
loop-i-preserved c =
    cc (column_more c.args.bytes.now c.args.field c.loop-i.i c.byte_at.result (omega arith) c.byte_at.ensures, c.loop-i.invariant)
