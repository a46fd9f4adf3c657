-- What the code's checks of a call come to.
use Rattle.std.specs.Prelude.{◌≡◌, ◌≢◌, ℕ, ◌<◌, ◌≤◌, Result, IfOk, IfErr}
use Rattle.protocol.specs.Running.{in_force}
use Rattle.protocol.specs.Fit.{fit}
use Rattle.protocol.specs.Checks.{Call, Ruling, grant, demand, by_running, ruling}
use Rattle.arrays.specs.declared.denial.Denial.{Denial}
use Rattle.arrays.specs.declared.denial.Denial.TheVariants.{Unfit}
use Rattle.arrays.specs.Rulings.{ruling_of}
use Rattle.scheduler.specs.declared.Scheduler.{Scheduler}
use Rattle.scheduler.specs.View.{table_of, entry_of, state_of}

-- what the machine rules of a call
abbrev pub ruling_on : Scheduler → Call → Ruling
ruling_on s c = ruling in_force (table_of s) (state_of s) c

-- what it rules first of each call of the running job: the state is fit, and the number p, n is that job's
abbrev pub by_number : Scheduler → ℕ → ℕ → Ruling
by_number s p n = demand 26 (fit (table_of s) (state_of s)) (by_running in_force (table_of s) (entry_of s) p n grant)

-- The machine's ruling q; where it grants, the place of a task, and counts within the arrays; these, too, where it refuses but for an unfit state.
pub record Ruled (s : Scheduler) (q : Ruling) (r : Result ℕ Denial) : Type 0 where
  pub same : ruling_of r ≡ q
  pub granted : IfOk r (λ i. (i < s.tasks.count) × (s.tasks.count ≤ 32) × (s.sections.count ≤ 16))
  pub refused : IfErr r (λ d. d ≢ Unfit → s.tasks.count ≤ 32)
