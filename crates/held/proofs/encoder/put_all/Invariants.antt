-- The loops of `held::encoder::put_all`.
use Prim.Native.Nat.{◌+◌, ◌*◌}
use lib.ListN.{take}
use mathlib.Core.List.{◌++◌}
use mathlib.Core.Path.{◌≡◌}
use Rattle.held.specs.Writing.{records_bytes}
use Rattle.held.proofs.encoder.put_all.Given as goal

abbrev pub invariant-loop-i : goal.invariant-loop-i
invariant-loop-i g l =
    let m = g.R.Record in
    take (l.start + m.SIZE * l.i) l.buffer ≡ take l.start l.initial.buffer ++ records_bytes m.record_bytes m.empty l.records l.i
