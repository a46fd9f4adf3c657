-- What is left of `held::load`.
use Rattle.std.proofs.Common.{rules}
use Rattle.held.proofs.Loads.{loads}
use Rattle.held.proofs.load.Goals as goal

pub filled-requires : goal.filled-requires
filled-requires c = (loads _ _ _ _ c.read-reading.ensures c.unwrap_or_default.ensures (search rules)).fits

pub returns : goal.returns
returns c = let l = loads _ _ _ _ c.read-reading.ensures c.unwrap_or_default.ensures (search rules) in cc (c.read-reading.ensures, c.filled.ensures, l.same)
