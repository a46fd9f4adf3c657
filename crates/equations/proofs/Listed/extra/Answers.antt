-- What is left of `equations::Listed::extra`.
use native.Mathlib.Omega.{arith}
use Rattle.searches.proofs.Searching.{largest_below}
use Rattle.equations.proofs.Scanned.{longest_next}
use Rattle.equations.proofs.Listed.extra.Goals as goal

pub loop-k-init : goal.loop-k-init
loop-k-init c = (c.requires, λ f none is. omega (arith, largest_below f c.args.first 0 (λ k l. omega (arith, none k l))))

pub loop-k-preserved : goal.loop-k-preserved
loop-k-preserved c =
    let here = c.args.self.now in
    let table = here.equations.table in (
      omega arith,
      longest_next table.bytes.now here.ceilings.now table.shape.uses_at c.args.priority c.args.first c.loop-k.k c.loop-k.best _
          (omega arith) c.loop-k.invariant.1 (omega (arith, c.max-best.ensures, c.reaching_length.ensures)),
    )
