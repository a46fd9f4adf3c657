-- The ranges of a record's fields.
use Rattle.std.specs.Prelude.{Bool, ◌&&◌, ◌||◌, ltb, leb}
use Rattle.table.specs.declared.Task.{Task}
use Rattle.table.specs.declared.Use.{Use}

-- priority 1 to 255 (a byte has no more), setting below it, X 0 to 64, C from 1, S to 1,000,000 and 0 where X is 0, C ≤ D ≤ T ≤ 1,000,000
abbrev pub task_fits : Task → Bool
task_fits t =
    leb 1 t.priority && ltb t.setting t.priority && leb t.sleeps 64 && leb 1 t.run
    && leb t.sleep 1000000 && (leb 1 t.sleeps || leb t.sleep 0)
    && leb t.run t.deadline && leb t.deadline t.period && leb t.period 1000000

-- resource 1 to 16, N 1 to 255 (a byte has no more), L 1 to 1,000,000
abbrev pub use_fits : Use → Bool
use_fits u = leb 1 u.resource && leb u.resource 16 && leb 1 u.times && leb 1 u.length && leb u.length 1000000
