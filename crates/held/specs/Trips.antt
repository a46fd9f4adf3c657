-- What the round trips speak of: a table that a program can hold, and a table with the entries past its counts 0.
use Rattle.std.specs.Prelude.{ℕ, ◌-◌, ◌^◌, ◌<◌, ◌≡◌, ◌++◌, length, get_or, take, replicate}
use Rattle.table.specs.declared.Task.{Task}
use Rattle.table.specs.Fields.{no_task, no_use}
use Rattle.held.specs.declared.Table.{Table}

-- the wide fields of a task fit their four bytes
pub record TaskSized (t : Task) : Type 0 where
  pub run : t.run < 2 ^ 32
  pub sleep : t.sleep < 2 ^ 32
  pub deadline : t.deadline < 2 ^ 32
  pub period : t.period < 2 ^ 32

-- what the types say of any table that a program holds: 32 tasks, 512 uses, wide fields of four bytes
pub record Sized (t : Table) : Type 0 where
  pub tasks : length t.tasks ≡ 32
  pub uses : length t.uses ≡ 512
  pub task_sized : (i : ℕ) → i < 32 → TaskSized (get_or t.tasks i no_task)
  pub use_sized : (j : ℕ) → j < 512 → (get_or t.uses j no_use).length < 2 ^ 32

-- the table with the entries past its counts 0
abbrev pub trimmed : Table → Table
trimmed t = record {
  tasks = take t.task_count t.tasks ++ replicate (32 - t.task_count) no_task;
  task_count = t.task_count;
  uses = take t.use_count t.uses ++ replicate (512 - t.use_count) no_use;
  use_count = t.use_count;
}
