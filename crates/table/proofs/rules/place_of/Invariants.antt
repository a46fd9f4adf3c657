-- The loops of `table::rules::place_of`.
use Prim.Native.Nat.{ℕ, ◌+◌, ◌*◌, ◌≤◌, ◌<◌}
use mathlib.Core.Path.{◌≡◌}
use lib.ListN.{get_or}
use Rattle.table.proofs.rules.place_of.Given as goal

abbrev pub invariant-loop-i : goal.invariant-loop-i
invariant-loop-i l = (n : ℕ) → l.first ≤ n → n < l.i → get_or l.bytes (20 * n + 1) 0 ≡ l.priority → ⊥
