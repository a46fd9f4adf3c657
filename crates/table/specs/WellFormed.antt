-- What a well-formed table is, said of all its bytes at once and not of a walk over them. A table is accepted exactly when it is well formed.
use Rattle.std.specs.Prelude.{ℕ, ◌+◌, ◌*◌, ◌≤◌, ◌<◌, ◌≡◌, cond, List, eqb, get_or, length}
use Rattle.searches.specs.Indexed.{sum_to}
use Rattle.table.specs.declared.Shape.{Shape}
use Rattle.table.specs.declared.Task.{Task}
use Rattle.table.specs.declared.Use.{Use}
use Rattle.table.specs.Fields.{task_at, use_at}
use Rattle.table.specs.Rules.{place_from}

-- the task at place i
abbrev pub task_of : List ℕ → ℕ → Task
task_of s i = task_at s (20 * i)

-- use j, where the uses start at a place
abbrev pub use_of : List ℕ → ℕ → ℕ → Use
use_of s start j = use_at s (start + 8 * j)

-- the place of the task, among n, that use j is of
abbrev pub user_of : List ℕ → ℕ → ℕ → ℕ → ℕ
user_of s n start j = place_from n s 0 (use_of s start j).priority

-- N times L of use j, where it is of the task at place i
abbrev pub sections_by : List ℕ → ℕ → ℕ → ℕ → ℕ → ℕ
sections_by s n start i j = cond (eqb (user_of s n start j) i) ((use_of s start j).times * (use_of s start j).length) 0

-- a task's fields within their ranges
pub record TaskInRange (t : Task) : Type 0 where
  pub priority : 1 ≤ t.priority
  pub setting : t.setting < t.priority
  pub sleeps : t.sleeps ≤ 64
  pub run : 1 ≤ t.run
  pub sleep : t.sleep ≤ 1000000
  pub sleepless : t.sleeps ≡ 0 → t.sleep ≡ 0
  pub run_within : t.run ≤ t.deadline
  pub deadline_within : t.deadline ≤ t.period
  pub period : t.period ≤ 1000000

-- a use's fields within their ranges
pub record UseInRange (u : Use) : Type 0 where
  pub resource : 1 ≤ u.resource
  pub resource_most : u.resource ≤ 16
  pub times : 1 ≤ u.times
  pub length : 1 ≤ u.length
  pub length_most : u.length ≤ 1000000

-- tasks with falling priorities, then uses in the order of their tasks and with rising resources, then one end record and nothing after it;
-- every field in range; for each task the sum of N times L at most C
pub record WellFormed (s : List ℕ) (h : Shape) : Type 0 where
  pub some : 1 ≤ h.tasks
  pub tasks_most : h.tasks ≤ 32
  pub uses_most : h.uses ≤ 512
  pub start : h.uses_at ≡ 20 * h.tasks
  pub whole : length s ≡ h.uses_at + 8 * h.uses + 1
  pub task_kind : (i : ℕ) → i < h.tasks → get_or s (20 * i) 0 ≡ 1
  pub use_kind : (j : ℕ) → j < h.uses → get_or s (h.uses_at + 8 * j) 0 ≡ 2
  pub end_kind : get_or s (h.uses_at + 8 * h.uses) 0 ≡ 3
  pub task_range : (i : ℕ) → i < h.tasks → TaskInRange (task_of s i)
  pub priority_most : (i : ℕ) → i < h.tasks → (task_of s i).priority ≤ 255
  pub falling : (i j : ℕ) → i < j → j < h.tasks → (task_of s j).priority < (task_of s i).priority
  pub use_range : (j : ℕ) → j < h.uses → UseInRange (use_of s h.uses_at j)
  pub owned : (j : ℕ) → j < h.uses → user_of s h.tasks h.uses_at j < h.tasks
  pub in_order : (j k : ℕ) → j < k → k < h.uses → user_of s h.tasks h.uses_at j ≤ user_of s h.tasks h.uses_at k
  pub rising : (j k : ℕ) → j < k → k < h.uses → user_of s h.tasks h.uses_at j ≡ user_of s h.tasks h.uses_at k
      → (use_of s h.uses_at j).resource < (use_of s h.uses_at k).resource
  pub sections : (i : ℕ) → i < h.tasks → sum_to (sections_by s h.tasks h.uses_at i) h.uses ≤ (task_of s i).run
