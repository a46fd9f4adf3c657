-- The ceilings of a table's resources, as a list by number.
use Rattle.std.specs.Prelude.{ℕ, ◌≤◌, ◌≡◌, List, []}
use Rattle.table.specs.declared.Shape.{Shape}
use Rattle.rounds.specs.Vector.{at as value}
use Rattle.equations.specs.View.{view_of}
use Rattle.equations.specs.Equations.{ceiling}

-- the ceilings of the table's resources, by number
abbrev pub CeilingsAre : List ℕ → Shape → List ℕ → Type 0
CeilingsAre s h ceilings = (r : ℕ) → r ≤ 16 → value ceilings r ≡ ceiling (view_of s h []) r
