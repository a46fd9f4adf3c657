-- What setting up answers: the scheduler of an accepted table with no job yet, or the refusal and a scheduler with no tasks.
use Rattle.std.specs.Prelude.{List, Bool, cond, ◌&&◌, ℕ, zero, suc, ◌+◌, ◌*◌, ◌/◌, ◌%◌, ltb, eqb, get_or, replicate, None, Some, Result, Ok, Err}
use Rattle.searches.specs.Searches.{only}
use Rattle.table.specs.declared.Shape.{Shape}
use Rattle.table.specs.declared.Use.{Use}
use Rattle.table.specs.declared.Refusal.{Refusal}
use Rattle.searches.specs.Indexed.{every}
use Rattle.table.specs.Reading.{read_table}
use Rattle.table.specs.WellFormed.{task_of, use_of}
use Rattle.arrays.specs.declared.tasks.Tasks.{Tasks}
use Rattle.arrays.specs.View.{no_entries, no_sections}
use Rattle.scheduler.specs.declared.Scheduler.{Scheduler}
use Rattle.scheduler.specs.declared.setup.SetUp.{SetUp}

-- these tasks, and no job yet
abbrev pub fresh_with : Tasks → Scheduler
fresh_with t = record { tasks = t; entries = no_entries; sections = no_sections }

-- a byte of each of n task records, 0 past them
abbrev pub column : List ℕ → ℕ → ℕ → List ℕ
column s n field = every (λ i. only (ltb i n) (get_or s (20 * i + field) 0)) 32 0

-- whether a use names the priority p and the resource r
abbrev pub names : Use → ℕ → ℕ → Bool
names u p r = eqb u.priority p && eqb u.resource r

-- N of the last of the first k uses that names the priority p and the resource r, 0 where none does
unfoldable pub times_of : List ℕ → ℕ → ℕ → ℕ → ℕ → ℕ
times_of s start zero p r = 0
times_of s start (suc k) p r = cond (names (use_of s start k) p r) (use_of s start k).times (times_of s start k p r)

-- N by the first k uses, for each of n tasks and each of its sixteen resources
abbrev pub times_by : List ℕ → ℕ → ℕ → ℕ → List ℕ
times_by s n start k = every (λ j. only (ltb (j / 16) n) (times_of s start k (task_of s (j / 16)).priority (j % 16 + 1))) 512 0

-- N by all uses
abbrev pub all_times : List ℕ → Shape → List ℕ
all_times s h = times_by s h.tasks h.uses_at h.uses

-- the scheduler of an accepted table: priority, setting and most sleeps are the bytes 1 to 3 of a task's record
abbrev pub fresh_of : List ℕ → Shape → Scheduler
fresh_of s h = fresh_with (record {
  count = h.tasks;
  priorities = column s h.tasks 1;
  settings = column s h.tasks 2;
  most = column s h.tasks 3;
  uses = all_times s h;
})

-- a scheduler with no tasks
abbrev pub empty : Scheduler
empty = fresh_with (record {
  count = 0;
  priorities = replicate 32 0;
  settings = replicate 32 0;
  most = replicate 32 0;
  uses = replicate 512 0;
})

-- what setting up answers, by what the bytes are read as
unfoldable pub set_up_by : Result Shape Refusal → List ℕ → SetUp
set_up_by (Ok h) s = record { refusal = None; scheduler = fresh_of s h }
set_up_by (Err f) s = record { refusal = Some f; scheduler = empty }

-- what setting up on a table's bytes answers
abbrev pub set_up : List ℕ → SetUp
set_up s = set_up_by (read_table s) s
