-- What is left of `equations::scans::ceilings`.
use Prim.Native.Nat.{ℕ}
use lib.ListN.{length-set, get_or-replicate}
use mathlib.Core.Path.{refl, ap, ◌∙◌}
use native.Mathlib.Omega.{arith}
use Rattle.table.specs.declared.Use.{Use}
use Rattle.equations.specs.Equations.{ceiling}
use Rattle.equations.proofs.Scanned.{ceiling_to, ceilings_start, ceilings_next}
use Rattle.equations.proofs.scans.ceilings.Goals as goal

pub loop-k-init : goal.loop-k-init
loop-k-init c = (refl, λ r l. get_or-replicate 32 r 0 0 (omega arith) ∙ ceilings_start c.args.table.now.bytes.now c.args.table.now.shape.uses_at r)

pub loop-k-preserved : goal.loop-k-preserved
loop-k-preserved c =
    let T = c.args.table.now in
    let resource = c.from-resource.ensures ∙ ap (λ (u : Use). u.resource) c.usage-usage.ensures in (
      length-set c.loop-k.found c.from-resource.result _ ∙ c.loop-k.invariant.0,
      ceilings_next T.bytes.now T.shape.uses_at c.loop-k.k c.loop-k.found c.from-resource.result _ c.loop-k.invariant.0 c.loop-k.invariant.1 resource
          (omega (arith, resource, (T.well_formed.use_range c.loop-k.k c.loop-k-test.true).resource_most))
          (omega (arith, c.max.ensures, ap (λ (u : Use). u.priority) c.usage-usage.ensures)),
    )

pub returns : goal.returns
unfolding ceiling
returns c = λ r l. c.loop-k.invariant.1 r l ∙ ap (λ (k : ℕ). ceiling_to c.args.table.now.bytes.now c.args.table.now.shape.uses_at k r) (omega arith)
