-- A table's equations as the code meets them: deadlines, starts and right sides by place.
use Prim.Native.Nat.{ℕ, ◌+◌, ◌≤◌, ◌<◌}
use mathlib.Core.Path.{◌≡◌, sym}
use mathlib.Core.List.{List}
use native.Mathlib.Omega.{arith}
use Rattle.searches.proofs.Indexed.{length_every, every_at}
use Rattle.table.specs.declared.Shape.{Shape}
use Rattle.table.specs.declared.Task.{Task}
use Rattle.table.specs.WellFormed.{task_of, WellFormed}
use Rattle.rounds.specs.System.{System, size, deadline, Lawful}
use Rattle.rounds.proofs.VectorLaws.{⊑_refl}
use Rattle.equations.specs.declared.Equations.{Equations}
use Rattle.equations.specs.declared.Query.{Query}
use Rattle.equations.specs.declared.keeps.KeptUses.{KeptUses}
use Rattle.equations.specs.View.{view_of}
use Rattle.equations.specs.Equations.{system_of}
use Rattle.equations.proofs.Accepted.{table_lawful}
use Rattle.rounds.proofs.SolverSteps.{solve_over}
use Rattle.rounds.proofs.SolverLoop.{climbing_start}
use Rattle.rounds.specs.Rounds.{reply}
use Rattle.analysis.specs.Seen.{equations_in}
use Rattle.analysis.specs.Solving.{Solvable}
use Rattle.analysis.proofs.Climbs.{Solving}

-- the equations of a table under settings
abbrev pub equations_of : List ℕ → Shape → List ℕ → System
equations_of s h settings = system_of (view_of s h settings)

module _ (s : List ℕ) (h : Shape) (settings : List ℕ) (w : WellFormed s h) where
  pub table_size : size (equations_of s h settings) ≡ h.tasks
  table_size = length_every (λ i. (task_of s i).deadline) h.tasks 0

  pub deadline_is : (i : ℕ) → i < h.tasks → (task_of s i).deadline ≡ deadline (equations_of s h settings) i
  deadline_is i l = sym (every_at (λ i. (task_of s i).deadline) h.tasks i 0 l)

-- the code's equations are lawful
pub lawful_in : (E : Equations) → Lawful (equations_in E)
lawful_in E = table_lawful E.table.bytes.now E.table.shape E.settings.now E.table.well_formed

module _ (E : Equations) (v : List ℕ) (kept : KeptUses) (q : Query) (g : Solvable E v kept q) where
  abbrev S : System
  S = equations_in E

  abbrev own : Task
  own = task_of E.table.bytes.now q.task

  placed : q.task < size S
  placed = rw (table_size E.table.bytes.now E.table.shape E.settings.now E.table.well_formed) g.task

  -- the task's deadline
  pub own_deadline : own.deadline ≡ deadline S q.task
  own_deadline = deadline_is E.table.bytes.now E.table.shape E.settings.now E.table.well_formed q.task g.task

  -- where t starts: not above the right side there
  pub start_above : S.start q.task ≤ S.side q.task v (S.start q.task)
  start_above = (lawful_in E).above q.task placed v (S.start q.task)

  pub side_rises : (a b : ℕ) → a ≤ b → S.side q.task v a ≤ S.side q.task v b
  side_rises a b l = (lawful_in E).rises q.task placed v v a b (⊑_refl v) l

  -- the solver's loop begins at C + S
  pub begins : (made allowance : ℕ) → made ≤ allowance
      → Solving (S.side q.task v) own.deadline allowance (reply S q.task v made) (own.run + own.sleep) made
  begins made allowance m = record {
    climbing = λ l.
        let within : S.start q.task ≤ deadline S q.task = omega (arith, own_deadline) in
        rw own_deadline (climbing_start (S.side q.task v) (deadline S q.task) allowance (S.start q.task) made within start_above m);
    over = λ l. (solve_over (S.side q.task v) (deadline S q.task) (S.start q.task) made (omega (arith, own_deadline)), m);
  }
