-- The loops of `notation::stepping::pack_text`.
use Prim.Native.Nat.{◌+◌, ◌-◌}
use lib.ListN.{length}
use mathlib.Core.Path.{◌≡◌}
use Rattle.notation.proofs.Lines.{Going}
use Rattle.notation.proofs.stepping.pack_text.Given as goal

abbrev pub invariant-loop-position : goal.invariant-loop-position
invariant-loop-position l = (length l.records ≡ length l.initial.records) × Going l.text l.position l.records

abbrev pub decreases-loop-position : goal.decreases-loop-position
decreases-loop-position l = length l.text + 1 - l.position.at
