-- What is left of `held::loader::load_all`.
use native.Mathlib.Omega.{arith}
use Rattle.searches.proofs.Indexed.{listed}
use Rattle.held.proofs.loader.load_all.Goals as goal

pub returns : goal.returns
returns g c = listed _ g.R.Record.empty _ _ c.loop-i.auto.out (λ k h. c.loop-i.invariant k (omega arith))
