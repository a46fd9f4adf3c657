-- What is left of `equations::Equations::times_of`.
use Prim.Native.Nat.{ℕ, ◌+◌, ◌*◌, ◌%◌}
use mathlib.Core.Path.{◌≡◌, ap, ap₂, ◌∙◌}
use native.Mathlib.Omega.{arith}
use lib.ListN.{get_or}
use Rattle.table.specs.declared.Task.{Task}
use Rattle.table.specs.WellFormed.{task_of}
use Rattle.equations.specs.Counting.{ceil}
use Rattle.equations.specs.Picking.{times_of}
use Rattle.equations.proofs.Counting.{ceil_self, product}
use Rattle.equations.proofs.Equations.times_of.Goals as goal

pub returns : goal.returns
unfolding times_of
returns c =
    let a = c.args in
    let bytes = a.self.now.table.bytes.now in
    let value : ℕ → ℕ = λ i. get_or a.vector.now i 0 in
    let period : c.task-task.result.period ≡ (task_of bytes (a.word % 256)).period =
    ap (λ (t : Task). t.period) c.task-task.ensures ∙ ap (λ (i : ℕ). (task_of bytes i).period) c.place-place.ensures.0 in
    let jobs : c.ceil_div.result ≡ ceil (a.t + value (a.word % 256)) (task_of bytes (a.word % 256)).period =
    c.ceil_div.ensures ∙ ap₂ (λ (i p : ℕ). ceil (a.t + value i) p) c.place-place.ensures.0 period in
    let many = product c.times.result c.ceil_div.result 255 2000000 c.times.ensures.1 (omega (
      arith,
      jobs,
      ceil_self (a.t + value (a.word % 256)) (task_of bytes (a.word % 256)).period c.requires.period,
      c.requires.small,
    )) in
    (ap₂ ◌*◌ c.times.ensures.0 jobs, omega arith)
