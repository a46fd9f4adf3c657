-- The record of a task, as a part of the table's own bytes.
use Rattle.std.specs.Prelude.{ℕ, ◌*◌, List, [], cond, ltb, take, drop, Ok, Err}
use Rattle.table.specs.Rules.{place_from}
use Rattle.table.specs.Reading.{Reading, read_table}

-- the 20 bytes of the task at place i, or none where there are only n tasks
abbrev pub record_at : List ℕ → ℕ → ℕ → List ℕ
record_at s n i = cond (ltb i n) (take 20 (drop (20 * i) s)) []

-- none of a refused table
unfoldable pub record_in : Reading → List ℕ → ℕ → List ℕ
record_in (Ok shape) s p = record_at s shape.tasks (place_from shape.tasks s 0 p)
record_in (Err refusal) s p = []

-- the 20 bytes of the task with priority p, or none for an absent task or a refused table
abbrev pub record_of : List ℕ → ℕ → List ℕ
record_of s p = record_in (read_table s) s p
