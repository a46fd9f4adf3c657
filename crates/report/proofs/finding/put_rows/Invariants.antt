-- The loop of `report::finding::put_rows`.
use mathlib.Core.Path.{◌≡◌}
use mathlib.Core.List.{◌++◌}
use lib.ListN.{drop}
use Rattle.searches.specs.Indexed.{every}
use Rattle.report.specs.Reporting.{task_row}
use Rattle.report.proofs.finding.put_rows.Given as goal

abbrev pub invariant-loop-i : goal.invariant-loop-i
invariant-loop-i l = l.rows ≡ every (task_row l.bytes l.analysis) l.i 0 ++ drop l.i l.initial.rows
