-- A table as the equations see it: its tasks and its uses by place, the place of the task that each use is of, and a system setting for each task.
use Rattle.std.specs.Prelude.{ℕ, cond, List, ltb, get_or}
use Rattle.searches.specs.Indexed.{every}
use Rattle.table.specs.declared.Shape.{Shape}
use Rattle.table.specs.declared.Task.{Task}
use Rattle.table.specs.declared.Use.{Use}
use Rattle.table.specs.WellFormed.{task_of, use_of, user_of}

pub record View : Type 0 where
  pub tasks : ℕ
  pub task : ℕ → Task
  pub uses : ℕ
  pub usage : ℕ → Use
  pub user : ℕ → ℕ
  pub setting : ℕ → ℕ

-- the bytes of a table with a shape, under these settings
abbrev pub view_of : List ℕ → Shape → List ℕ → View
view_of s h settings = record {
  tasks = h.tasks;
  task = task_of s;
  uses = h.uses;
  usage = use_of s h.uses_at;
  user = user_of s h.tasks h.uses_at;
  setting = λ i. get_or settings i 0;
}

-- the settings that the bytes themselves name, 0 past the tasks
abbrev pub own_settings : List ℕ → ℕ → List ℕ
own_settings s n = every (λ i. cond (ltb i n) (task_of s i).setting 0) 32 0

-- the bytes of a table with a shape, under the settings that they name
abbrev pub own_view : List ℕ → Shape → View
own_view s h = view_of s h (own_settings s h.tasks)
