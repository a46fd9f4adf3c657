-- What the one-task solver is handed, and what it replies. For private functions: no promise to a caller.
use Rattle.std.specs.Prelude.{ℕ, ◌≤◌, ◌<◌, ◌≡◌, List, get_or, length, Option, Some, None, Result, Ok, Err}
use Rattle.rounds.specs.Answer as theory
use Rattle.rounds.specs.Solver as theory-solver
use Rattle.table.specs.WellFormed.{task_of}
use Rattle.equations.specs.declared.Equations.{Equations}
use Rattle.equations.specs.declared.Query.{Query}
use Rattle.equations.specs.declared.keeps.KeptUses.{KeptUses}
use Rattle.equations.specs.Ready.{QueryIs}
use Rattle.analysis.specs.declared.Spent.{Spent}
use Rattle.analysis.specs.declared.solver.Reply.{Reply}

-- the definition's answer of the code's
abbrev pub answer_of : Option ℕ → theory.Answer
answer_of (Some t) = theory.bound t
answer_of None = theory.none

-- a task's query with the kept uses, a vector within a million and nowhere below C
pub record Solvable (e : Equations) (v : List ℕ) (k : KeptUses) (q : Query) : Type 0 where
  pub query : QueryIs e.table.bytes.now e.table.shape e.settings.now q.task k.words k.count q
  pub task : q.task < e.table.shape.tasks
  pub sized : length v ≡ e.table.shape.tasks
  pub most : (j : ℕ) → j < e.table.shape.tasks → get_or v j 0 ≤ 1000000
  pub floor : (j : ℕ) → j < e.table.shape.tasks → (task_of e.table.bytes.now j).run ≤ get_or v j 0

-- the definition's reply where that is within the allowance; spent where it isn't
abbrev pub Solved : ℕ → theory-solver.Reply → Result Reply Spent → Type 0
Solved allowance whole (Ok r) = (record { answer = answer_of r.bound; evaluations = r.evaluations } ≡ whole) × (r.evaluations ≤ allowance)
Solved allowance whole (Err spent) = allowance < whole.evaluations
