-- What a held table has of the bytes: a record for each count, and zeros after them; all zeros where the bytes are refused.
use Rattle.std.specs.Prelude.{ℕ, ◌-◌, List, ◌++◌, replicate, Ok, Err}
use Rattle.searches.specs.Indexed.{every}
use Rattle.table.specs.declared.Task.{Task}
use Rattle.table.specs.declared.Use.{Use}
use Rattle.table.specs.Fields.{no_task, no_use}
use Rattle.table.specs.Reading.{Reading, read_table}
use Rattle.table.specs.WellFormed.{task_of, use_of}
use Rattle.held.specs.declared.Table.{Table}
use Rattle.held.specs.declared.Loaded.{Loaded}

-- the first n tasks of the bytes, and zeros up to 32
abbrev pub tasks_of : List ℕ → ℕ → List Task
tasks_of s n = every (task_of s) n 0 ++ replicate (32 - n) no_task

-- the first n uses of the bytes, which start at a place, and zeros up to 512
abbrev pub uses_of : List ℕ → ℕ → ℕ → List Use
uses_of s start n = every (use_of s start) n 0 ++ replicate (512 - n) no_use

-- a table with these counts
abbrev pub filled_by : List ℕ → ℕ → ℕ → ℕ → Table
filled_by s tasks start uses = record { tasks = tasks_of s tasks; task_count = tasks; uses = uses_of s start uses; use_count = uses }

-- the table that bytes hold, by what they are read as
unfoldable pub held_by : Reading → List ℕ → Table
held_by (Ok h) s = filled_by s h.tasks h.uses_at h.uses
held_by (Err r) s = filled_by s 0 0 0

-- what loading answers
abbrev pub load_table : List ℕ → Loaded
load_table s = record { reading = read_table s; table = held_by (read_table s) s }
