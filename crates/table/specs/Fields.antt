-- The fields of a record, read off the list of a table's bytes. Wide fields are four bytes, low byte first; what lies past the end reads as 0.
use Rattle.std.specs.Prelude.{ℕ, ◌+◌, ◌*◌, List, get_or}
use Rattle.table.specs.declared.Task.{Task}
use Rattle.table.specs.declared.Use.{Use}

-- four bytes, low byte first
unfoldable pub word_at : List ℕ → ℕ → ℕ
word_at s i = get_or s i 0 + 256 * get_or s (i + 1) 0 + 65536 * get_or s (i + 2) 0 + 16777216 * get_or s (i + 3) 0

-- a task and a use with every field 0
abbrev pub no_task : Task
no_task = record { priority = 0; setting = 0; sleeps = 0; run = 0; sleep = 0; deadline = 0; period = 0 }

abbrev pub no_use : Use
no_use = record { priority = 0; resource = 0; times = 0; length = 0 }

-- the task record that starts at i: its kind byte, then priority, system setting, X, and C, S, D, T of four bytes each
abbrev pub task_at : List ℕ → ℕ → Task
task_at s i = record {
  priority = get_or s (i + 1) 0;
  setting = get_or s (i + 2) 0;
  sleeps = get_or s (i + 3) 0;
  run = word_at s (i + 4);
  sleep = word_at s (i + 8);
  deadline = word_at s (i + 12);
  period = word_at s (i + 16);
}

-- the use record that starts at i: its kind byte, then priority, resource, N, and L of four bytes
abbrev pub use_at : List ℕ → ℕ → Use
use_at s i = record {
  priority = get_or s (i + 1) 0;
  resource = get_or s (i + 2) 0;
  times = get_or s (i + 3) 0;
  length = word_at s (i + 4);
}
