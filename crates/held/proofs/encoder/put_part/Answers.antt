-- What is left of `held::encoder::put_part`.
use lib.ListN.{take}
use native.Mathlib.Omega.{arith}
use borrow.Author.Tests.{lt-ltb, le-ltb}
use Rattle.held.proofs.Puts.{put_part_lem}
use Rattle.held.proofs.encoder.put_part.Goals as goal

pub returns-then-records-count-clause-front : goal.returns-then-records-count-clause-front
returns-then-records-count-clause-front g c =
    let m = g.R.Record in
    put_part_lem m.record_bytes m.empty m.SIZE g.met.R.Record.long c.put_all.new.buffer c.put.new.buffer (take c.args.start c.args.buffer.now) c.args.records.now
    c.args.start c.min-first.result c.args.count _ c.min-first.ensures c.put_all.ensures (rw (c.SIZE.ensures, c.none.ensures) at c.put.ensures)
    (omega (arith, c.put_all.auto.buffer)) (rw (c.SIZE.ensures, c.SIZE-then-records-count.ensures, lt-ltb _ _ c.if-records-count.true))

pub returns-else-records-count-clause-front : goal.returns-else-records-count-clause-front
returns-else-records-count-clause-front g c =
    let m = g.R.Record in
    put_part_lem m.record_bytes m.empty m.SIZE g.met.R.Record.long c.put_all.new.buffer c.put.new.buffer (take c.args.start c.args.buffer.now) c.args.records.now
    c.args.start c.min-first.result c.args.count _ c.min-first.ensures c.put_all.ensures (rw (c.SIZE.ensures, c.none.ensures) at c.put.ensures)
    (omega (arith, c.put_all.auto.buffer)) (rw (c.SIZE.ensures, le-ltb _ _ c.if-records-count.false) (omega arith))
