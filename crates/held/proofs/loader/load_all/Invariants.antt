-- The loops of `held::loader::load_all`.
use Prim.Native.Nat.{ℕ, ◌+◌, ◌*◌, ◌<◌}
use mathlib.Core.Path.{◌≡◌}
use lib.ListN.{get_or}
use Rattle.held.proofs.loader.load_all.Given as goal

abbrev pub invariant-loop-i : goal.invariant-loop-i
invariant-loop-i g l = let m = g.R.Record in (k : ℕ) → k < l.i → get_or l.out k m.empty ≡ m.read_at l.bytes (l.start + m.SIZE * k)
