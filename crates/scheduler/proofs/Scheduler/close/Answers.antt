-- What is left of `scheduler::Scheduler::close`.
use Rattle.std.proofs.Common.{◌-◌, sym, refl, ap, ◌∙◌, lt-ltb}
use Rattle.searches.specs.Searches.{only}
use Rattle.scheduler.proofs.Removing.{not_open}
use Rattle.scheduler.proofs.Closing.{closes}
use Rattle.scheduler.proofs.Scheduler.close.Goals as goal

pub returns-in_default-clause-closed : goal.returns-in_default-clause-closed
returns-in_default-clause-closed c =
    let o = c.args.self.now.sections in
    rw (not_open o.places o.resources c.args.place c.args.resource o.count (sym c.in_default.ensures.found)) refl

pub returns-clause-closed : goal.returns-clause-closed
returns-clause-closed c =
    let n = c.args.self.now.sections.count in
    rw c.wake.ensures.rest (closes (record {
      found = sym c.in-Some.ensures.found;
      count = c.remove.ensures.count ∙ ap (λ b. n - only b 1) (lt-ltb c.in-Some.slot n c.in-Some.ensures.inside);
      places = c.remove.ensures.places;
      resources = c.remove.ensures.resources;
      wakes = rw (← c.ceiling-ceiling.ensures) c.wake.ensures.woken;
    }))
