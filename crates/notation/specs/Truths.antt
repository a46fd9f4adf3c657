-- What each cause of a refused record says of the records, as a person reads it: the fault that is printed is one that is there.
use Rattle.std.specs.Prelude.{ℕ, ◌+◌, ◌*◌, ◌-◌, ◌≤◌, ◌<◌, ◌≡◌, ◌⊎◌, List, [], ◌∷◌, ◌++◌, get_or, length, Ok}
use Rattle.searches.specs.Indexed.{sum_to}
use Rattle.table.specs.declared.Shape.{Shape}
use Rattle.table.specs.Fields.{task_at, use_at}
use Rattle.table.specs.Rules.{place_from}
use Rattle.table.specs.Reading.{read_table}
use Rattle.table.specs.WellFormed.{task_of, sections_by}
use Rattle.notation.specs.declared.stepping.Position.{Position}
use Rattle.notation.specs.Numbered.{Fault}
use Rattle.notation.specs.Reasons.{Reason, reason}
use Rattle.notation.specs.Rows.{row_at}
use Rattle.notation.specs.Packing.{on, step_at, start}

-- the place, among n tasks, of the task that the use which starts at a place is of; n where no task has its priority
abbrev pub owner_at : List ℕ → ℕ → ℕ → ℕ
owner_at all n at = place_from n all 0 (use_at all at).priority

-- a cause and its two values are true of the last record, which starts at a place after n tasks and perhaps uses: 7 to 13 a task, 14 to 16 a use
pub data Told (all : List ℕ) (at n : ℕ) : Reason → Type 0 where
  -- 7: the setting is not below the priority
  setting_high : get_or all at 0 ≡ 1 → (task_at all at).priority ≤ (task_at all at).setting → Told all at n (reason 7 (task_at all at).setting (task_at all at).priority)
  -- 8: a sleep time, and no sleeps
  sleepless : get_or all at 0 ≡ 1 → (task_at all at).sleeps ≡ 0 → 0 < (task_at all at).sleep → Told all at n (reason 8 (task_at all at).sleep 0)
  -- 9: the run time is above the deadline
  run_high : get_or all at 0 ≡ 1 → (task_at all at).deadline < (task_at all at).run → Told all at n (reason 9 (task_at all at).run (task_at all at).deadline)
  -- 10: the deadline is above the period
  deadline_high : get_or all at 0 ≡ 1 → (task_at all at).period < (task_at all at).deadline → Told all at n (reason 10 (task_at all at).deadline (task_at all at).period)
  -- 11: 32 tasks are there already
  one_too_many : get_or all at 0 ≡ 1 → n ≡ 32 → Told all at n (reason 11 (task_at all at).priority 32)
  -- 12: the record before it is a use
  after_use : get_or all at 0 ≡ 1 → 20 * n < at → get_or all (at - 8) 0 ≡ 2 → Told all at n (reason 12 (task_at all at).priority (use_at all (at - 8)).priority)
  -- 13: the record before it is a task, and the priority is not below that one's
  not_below : get_or all at 0 ≡ 1 → 1 ≤ n → at ≡ 20 * n → (task_of all (n - 1)).priority ≤ (task_at all at).priority
      → Told all at n (reason 13 (task_at all at).priority (task_of all (n - 1)).priority)
  -- 14: no task has the use's priority
  of_no_task : get_or all at 0 ≡ 2 → ((i : ℕ) → i < n → (task_of all i).priority ≡ (use_at all at).priority → ⊥)
      → Told all at n (reason 14 (use_at all at).priority (use_at all at).priority)
  -- 15: the use's task comes before that of the use before it, or is the same and the resource does not rise
  out_of_order : get_or all at 0 ≡ 2 → owner_at all n at < n → 20 * n < at → get_or all (at - 8) 0 ≡ 2
      → (owner_at all n at < owner_at all n (at - 8)) ⊎ ((owner_at all n at ≡ owner_at all n (at - 8)) × ((use_at all at).resource ≤ (use_at all (at - 8)).resource))
      → Told all at n (reason 15 (use_at all at).resource (use_at all at).priority)
  -- 16: the sections of the use's task, those of the uses before it and its own, are longer than the task's run time
  past_run : get_or all at 0 ≡ 2 → (uses : ℕ) → at ≡ 20 * n + 8 * uses → owner_at all n at < n
      → (task_of all (owner_at all n at)).run < sum_to (sections_by all n (20 * n) (owner_at all n at)) (uses + 1)
      → Told all at n (reason 16 (use_at all at).priority (task_of all (owner_at all n at)).run)

-- records that the reader accepts with an end, as a table of n tasks
pub record Standing (records : List ℕ) (n : ℕ) : Type 0 where
  pub shape : Shape
  pub accepted : read_table (records ++ 3 ∷ []) ≡ Ok shape
  pub tasks : n ≡ shape.tasks

-- the records so far are those that a position counts: none, or accepted ones
pub record SoFar (w : Position) (records : List ℕ) : Type 0 where
  pub count : w.count ≡ length records
  pub stand : ((records ≡ []) × (w.tasks ≡ 0)) ⊎ Standing records w.tasks

-- the lines of a text before a position are packed, none at fault, as these records
pub data Before (s : List ℕ) : Position → List ℕ → Type 0 where
  none : Before s start []
  line : {w next : Position} {records more : List ℕ} → Before s w records → step_at s w records ≡ on next more → Before s next more

-- a fault of a record is true: of the record of its own line, behind those of the lines before
pub record TrueFault (s : List ℕ) (f : Fault) : Type 0 where
  pub at : Position
  pub records : List ℕ
  pub before : Before s at records
  pub line : f.line ≡ at.line
  pub told : Told (records ++ (row_at s at.at).bytes) at.count at.tasks (reason f.cause f.value f.other)
