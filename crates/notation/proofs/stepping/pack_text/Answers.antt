-- What is left of `notation::stepping::pack_text`.
use native.Mathlib.Omega.{arith}
use mathlib.Core.Path.{refl, ◌∙◌}
use Rattle.std.proofs.lemmas.Result.{err_from_is_err_and}
use Rattle.notation.proofs.Lines.{go_start, go_long, go_end, go_on, go_last}
use Rattle.notation.proofs.stepping.pack_text.Goals as goal

pub returns-then-text-gt262144 : goal.returns-then-text-gt262144
returns-then-text-gt262144 c = go_long _ _ _ c.if-text-gt262144.true c.whole.ensures

pub loop-position-init : goal.loop-position-init
loop-position-init c = (refl, go_start _ _ (omega (arith, c.if-text-gt262144.false)) c.requires)

pub returns-in_err-position : goal.returns-in_err-position
returns-in_err-position c =
    let p = err_from_is_err_and c.from_residual.result c.from_residual.ensures.1 in
    let f = c.in_err-position.field-0.0 in
    rw (p.1, p.2) (go_last _ _ _ _ _ c.loop-position.invariant.1 c.loop-position-test.true c.line_step.ensures f c.in_err-position.was)

pub loop-position-preserved : goal.loop-position-preserved
loop-position-preserved c =
    let loop = c.loop-position in (
      c.line_step.auto.records ∙ loop.invariant.0,
      (go_on _ _ _ _ _ loop.invariant.1 c.loop-position-test.true c.line_step.ensures _ c.in_ok-position.was).0,
    )

pub returns : goal.returns
returns c = go_end _ _ _ _ _ c.loop-position.invariant.1 c.loop-position-test.false c.end_step.ensures
