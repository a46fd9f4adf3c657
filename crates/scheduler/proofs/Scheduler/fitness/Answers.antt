-- What is left of `scheduler::Scheduler::fitness`.
use Rattle.std.proofs.Common.{◌&&◌, refl, ap₂, ◌∙◌}
use Rattle.scheduler.proofs.Viewing.{tested_fit, fit_passed}
use Rattle.scheduler.proofs.Scheduler.fitness.Goals as goal

pub returns-then-are_fit-clause-fit : goal.returns-then-are_fit-clause-fit
returns-then-are_fit-clause-fit c =
    let F = fit_passed c.args.self.now _ (ap₂ (λ a b. a && b) c.are_fit.ensures c.are_fit-2.ensures) c.if-are_fit.true in
    (F.fits, F.few, F.room)

pub returns-else-are_fit-clause-unfit : goal.returns-else-are_fit-clause-unfit
returns-else-are_fit-clause-unfit c =
    (refl, tested_fit c.args.self.now _ (ap₂ (λ a b. a && b) c.are_fit.ensures c.are_fit-2.ensures) ∙ c.if-are_fit.false)
