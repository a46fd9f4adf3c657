-- The loop of `analysis::starts::own_settings`.
use Prim.Native.Nat.{◌-◌}
use lib.ListN.{replicate}
use mathlib.Core.List.{◌++◌}
use mathlib.Core.Path.{◌≡◌}
use Rattle.searches.specs.Indexed.{every}
use Rattle.analysis.proofs.Starting.{setting_of}
use Rattle.analysis.proofs.starts.own_settings.Given as goal

abbrev pub invariant-loop-i : goal.invariant-loop-i
invariant-loop-i l = l.settings ≡ every (setting_of l.table.bytes.now) l.i 0 ++ replicate (32 - l.i) 0
