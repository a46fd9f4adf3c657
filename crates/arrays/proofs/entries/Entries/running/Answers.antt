-- What is left of `arrays::entries::Entries::running`.
use Rattle.std.proofs.Common.{◌≡◌, sym, refl, ap, arith, ◌∙◌}
use Rattle.searches.specs.Searches.{first}
use Rattle.searches.proofs.Searching.{first_here, first_on}
use Rattle.arrays.specs.View.{tasks_of, entries_of}
use Rattle.arrays.proofs.Turns.{leads, running_found}
use Rattle.arrays.proofs.entries.Entries.running.Goals as goal

pub loop-i-init : goal.loop-i-init
unfolding first
loop-i-init c = refl

pub returns-then-leads-clause-found : goal.returns-then-leads-clause-found
returns-then-leads-clause-found c =
    let T = tasks_of c.args.tasks.now in
    let f = entries_of c.args.self.now in
    let system = c.system_priority-system.result in
    let highest = c.highest_eligible-highest.result in
    rw c.new.ensures (sym (first_here (leads T f system highest) c.loop-i.i c.args.tasks.now.count c.loop-i.invariant
    (rw (← c.of.ensures, ← c.is_leading-leads.ensures) c.if-leads.true) c.loop-i-test.true)
    ∙ running_found T f system highest c.system_priority-system.ensures c.highest_eligible-highest.ensures)

pub loop-i-preserved : goal.loop-i-preserved
loop-i-preserved c =
    let T = tasks_of c.args.tasks.now in
    let f = entries_of c.args.self.now in
    first_on (leads T f c.system_priority-system.result c.highest_eligible-highest.result) c.loop-i.i c.loop-i.invariant
    (rw (← c.of.ensures, ← c.is_leading-leads.ensures) c.if-leads.false)

pub returns-clause-found : goal.returns-clause-found
returns-clause-found c =
    let T = tasks_of c.args.tasks.now in
    let f = entries_of c.args.self.now in
    let system = c.system_priority-system.result in
    let highest = c.highest_eligible-highest.result in
    let e : c.loop-i.i ≡ c.args.tasks.now.count = omega arith in
    sym c.loop-i.invariant ∙ ap (first (leads T f system highest)) e
    ∙ running_found T f system highest c.system_priority-system.ensures c.highest_eligible-highest.ensures
