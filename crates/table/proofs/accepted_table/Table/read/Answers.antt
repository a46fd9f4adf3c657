-- What is left of `table::accepted_table::Table::read`.
use Rattle.std.proofs.Common.{sym, arith}
use Rattle.table.proofs.Accepted.{well_formed}
use Rattle.table.proofs.accepted_table.Table.read.Goals as goal

pub invariant_of-result : goal.invariant_of-result
invariant_of-result c = record {
  well_formed = well_formed c.args.bytes.now _ (sym c.in_ok-shape.ensures);
  are_bytes = λ j. omega (arith, c.type_inv.bytes j);
}
