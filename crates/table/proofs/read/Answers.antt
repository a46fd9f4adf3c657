-- What is left of `table::read`.
use mathlib.Core.Path.{subst, sym, ap, ◌∙◌}
use native.Mathlib.Omega.{arith}
use Rattle.std.proofs.Common.{Ok}
use Rattle.std.proofs.lemmas.Result.{err_from_is_err_and}
use Rattle.table.proofs.Going.{Going, going_start, going_further, going_on, going_done, going_refused}
use Rattle.table.proofs.read.Goals as goal

pub loop-next-init : goal.loop-next-init
loop-next-init c = subst (Going _) (sym c.start-walk.ensures) (going_start _)

pub returns-in_err-next : goal.returns-in_err-next
returns-in_err-next c =
    let p = err_from_is_err_and c.from_residual.result c.from_residual.ensures.1 in
    rw (p.1, p.2) (going_refused _ _ _ c.loop-next.invariant c.step.ensures _ c.in_err-next.was)

pub loop-next-smaller : goal.loop-next-smaller
loop-next-smaller c =
    let on = c.in_ok-next.was ∙ ap Ok c.in-On.is in
    let further = going_further _ _ _ c.loop-next.invariant c.step.ensures _ on in
    let next = going_on _ _ _ c.loop-next.invariant c.step.ensures (λ i. let h = c.type_inv.bytes i in omega arith) _ on in
    omega (arith, next.sound.within)

pub loop-next-preserved : goal.loop-next-preserved
loop-next-preserved c =
    going_on _ _ _ c.loop-next.invariant c.step.ensures (λ i. let h = c.type_inv.bytes i in omega arith) _ (c.in_ok-next.was ∙ ap Ok c.in-On.is)

pub returns-in-Done : goal.returns-in-Done
returns-in-Done c = going_done _ _ _ c.loop-next.invariant c.step.ensures _ (c.in_ok-next.was ∙ ap Ok c.in-Done.is)
