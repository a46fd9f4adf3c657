-- What is left of `table::record_of`.
use mathlib.Core.Path.{sym, ◌∙◌}
use native.Mathlib.Omega.{arith}
use Rattle.table.proofs.Parts.{tasks_within, record_refused, record_found, record_absent}
use Rattle.table.proofs.record_of.Goals as goal

pub returns-in_default : goal.returns-in_default
returns-in_default c = record_refused c.args.bytes.now c.args.priority _ (sym c.read.ensures ∙ c.in_default.is)

pub place_of-i-requires : goal.place_of-i-requires
place_of-i-requires c = omega (arith, tasks_within c.args.bytes.now _ (sym c.read.ensures ∙ c.in-Ok.is))

pub overflow_mul-at : goal.overflow_mul-at
overflow_mul-at c = omega (arith, tasks_within c.args.bytes.now _ (sym c.read.ensures ∙ c.in-Ok.is))

pub overflow_add-result : goal.overflow_add-result
overflow_add-result c = omega (arith, tasks_within c.args.bytes.now _ (sym c.read.ensures ∙ c.in-Ok.is))

pub slice_bounds-result-end-then-i-tasks : goal.slice_bounds-result-end-then-i-tasks
slice_bounds-result-end-then-i-tasks c = omega (arith, tasks_within c.args.bytes.now _ (sym c.read.ensures ∙ c.in-Ok.is))

pub returns-then-i-tasks : goal.returns-then-i-tasks
returns-then-i-tasks c = record_found _ _ _ _ (sym c.read.ensures ∙ c.in-Ok.is) c.place_of-i.ensures c.if-i-tasks.true

pub returns : goal.returns
returns c = record_absent _ _ _ _ (sym c.read.ensures ∙ c.in-Ok.is) c.place_of-i.ensures c.if-i-tasks.false
