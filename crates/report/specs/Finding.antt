-- What is found of a table before a lent row is touched. For private functions: no promise to a caller.
use Rattle.std.specs.Prelude.{ℕ, ◌≤◌, ◌≡◌, List, take}
use Rattle.searches.specs.Indexed.{every}
use Rattle.analysis.specs.Analysing.{analysed}
use Rattle.report.specs.declared.Row.{Row}
use Rattle.report.specs.declared.Reported.{Reported}
use Rattle.report.specs.Reporting.{task_row, reported}

-- the definition's reply, the rows of its tasks, and room for them
pub record Finds (s : List ℕ) (allowance room : ℕ) (r : Reported) (rows : List Row) : Type 0 where
  pub reply : r ≡ reported s allowance room
  pub rows_are : take r.tasks rows ≡ every (task_row s (analysed s allowance)) r.tasks 0
  pub tasks_most : r.tasks ≤ 32
  pub room_enough : r.tasks ≤ room
