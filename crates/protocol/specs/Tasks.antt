-- What the scheduler knows of a table: the tasks, by place.
use Rattle.std.specs.Prelude.{ℕ}

-- A task: its priority, its system setting, its most sleeps, and N for each resource, 0 where it has no use of it.
pub record Task : Type 0 where
  pub priority : ℕ
  pub setting : ℕ
  pub most : ℕ
  pub uses : ℕ → ℕ

-- The tasks stand at the places below the size.
pub record Table : Type 0 where
  pub size : ℕ
  pub task : ℕ → Task

abbrev pub priority : Table → ℕ → ℕ
priority T i = (T.task i).priority

abbrev pub setting : Table → ℕ → ℕ
setting T i = (T.task i).setting
