-- The numbers of an accepted table and of a vector on the way are small enough to compute with.
use Prim.Native.Nat.{ℕ, ◌+◌, ◌*◌, ◌≤◌, ◌<◌}
use mathlib.Core.List.{List}
use lib.ListN.{get_or}
use native.Mathlib.Omega.{arith}
use Rattle.table.specs.declared.Shape.{Shape}
use Rattle.table.specs.Fields.{word_at}
use Rattle.table.specs.WellFormed.{WellFormed}
use Rattle.equations.specs.declared.At.{At}
use Rattle.equations.specs.Ready.{Ready}

-- of a higher task: its run time, sleep and period, and its value
pub record Higher (s v : List ℕ) (j : ℕ) : Type 0 where
  pub run : word_at s (20 * j + 4) ≤ 1000000
  pub sleep : word_at s (20 * j + 8) ≤ 1000000
  pub period : 1 ≤ word_at s (20 * j + 16)
  pub period_most : word_at s (20 * j + 16) ≤ 1000000
  pub value : get_or v j 0 ≤ 1000000
  pub floor : word_at s (20 * j + 4) ≤ get_or v j 0

pub higher : (s : List ℕ) (h : Shape) (v : List ℕ) (at : At) → WellFormed s h → Ready s h v at → (j : ℕ) → j < at.task → Higher s v j
higher s h v at w g j l =
    let here : j < h.tasks = omega (arith, g.task) in
    let r = w.task_range j here in
    let run = r.run in
    let within = r.run_within in
    let deadline = r.deadline_within in
    let period = r.period in
    record {
      run = omega arith;
      sleep = r.sleep;
      period = omega arith;
      period_most = r.period;
      value = g.most j here;
      floor = g.floor j here;
    }
