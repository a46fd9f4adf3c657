-- What is left of `table::rules::place_of`.
use Prim.Native.Nat.{◌-◌}
use mathlib.Core.Path.{sym, ◌∙◌}
use native.Mathlib.Omega.{arith}
use Rattle.table.proofs.Laws.{place_reached, place_none}
use Rattle.table.proofs.rules.place_of.Goals as goal

pub returns-then-byte_at-priority : goal.returns-then-byte_at-priority
returns-then-byte_at-priority c =
    sym (place_reached (c.args.count - c.args.first) c.args.bytes.now c.args.first c.args.priority c.loop-i.i c.loop-i.auto.i (omega arith)
    (sym c.byte_at.ensures ∙ c.if-byte_at-priority.true) c.loop-i.invariant)

pub returns : goal.returns
returns c =
    let e = place_none (c.args.count - c.args.first) c.args.bytes.now c.args.first c.args.priority (λ n a b. c.loop-i.invariant n a (omega arith)) in
    omega arith
