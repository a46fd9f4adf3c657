-- What is left of `arrays::entries::Entries::has_number`.
use Rattle.std.proofs.Common.{◌&&◌, eqb, ap}
use Rattle.arrays.proofs.entries.Entries.has_number.Goals as goal

pub returns : goal.returns
returns c = ap (λ n. eqb n.priority c.args.job.priority && eqb n.serial c.args.job.serial) c.number_at-latest.ensures
