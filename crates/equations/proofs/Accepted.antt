-- The equations of every well-formed table, and so of every accepted one, are a lawful system, whatever the settings.
use mathlib.Core.Path.{◌≡◌}
use mathlib.Core.List.{List}
use Prim.Native.Nat.{ℕ}
use Rattle.std.specs.Prelude.{Ok}
use Rattle.table.specs.declared.Shape.{Shape}
use Rattle.table.specs.Reading.{read_table}
use Rattle.table.specs.WellFormed.{WellFormed}
use Rattle.table.proofs.Accepted.{well_formed}
use Rattle.rounds.specs.System.{Lawful}
use Rattle.equations.specs.View.{view_of}
use Rattle.equations.specs.Equations.{system_of}
use Rattle.equations.proofs.Lawful.{lawful}

-- of every well-formed table
pub table_lawful : (s : List ℕ) (h : Shape) (settings : List ℕ) → WellFormed s h → Lawful (system_of (view_of s h settings))
table_lawful s h settings w = lawful (view_of s h settings) (λ i l. (w.task_range i l).run)

-- of every accepted table
pub accepted_lawful : (s : List ℕ) (h : Shape) (settings : List ℕ) → read_table s ≡ Ok h → Lawful (system_of (view_of s h settings))
accepted_lawful s h settings e = table_lawful s h settings (well_formed s h e)
