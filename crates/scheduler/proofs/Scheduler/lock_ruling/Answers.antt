-- What is left of `scheduler::Scheduler::lock_ruling`.
use Rattle.std.proofs.Common.{◌∙◌, ltb, rules}
use Rattle.protocol.specs.Checks.{locking}
use Rattle.arrays.proofs.Opened.{sections_length}
use Rattle.scheduler.specs.View.{table_of, entry_of}
use Rattle.scheduler.proofs.Asking.{checked_rest}
use Rattle.scheduler.proofs.Scheduler.lock_ruling.Goals as goal

pub returns-clause-ruled : goal.returns-clause-ruled
returns-clause-ruled c =
    let s = c.args.self.now in
    let o = s.sections in
    let h = c.in_ok-place.ensures in
    record {
      same = rw (sections_length o.places o.resources o.count)
          (c.lock_rule.ensures.rule
          ∙ checked_rest s c.args.job.priority c.args.job.serial c.in_ok-place.place (locking (table_of s) (entry_of s) (ltb o.count 16) c.args.resource) h.same);
      granted = search rules;
      refused = search rules;
    }
