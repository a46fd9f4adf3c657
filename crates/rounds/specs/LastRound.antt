-- Rounds that each changed a value.
use Rattle.std.specs.Prelude.{◌≡◌}
use Prim.Native.Nat.{ℕ, zero, suc, ◌<◌}
use Rattle.rounds.specs.Rounds.{Progress}

-- s after m rounds R.
unfoldable pub after : (Progress → Progress) → ℕ → Progress → Progress
after R zero s = s
after R (suc m) s = after R m (R s)

-- `now` is reached from s by rounds that each changed a value.
pub record Reached (R : Progress → Progress) (s now : Progress) : Type 0 where
  pub rounds : ℕ
  pub reached : now ≡ after R rounds s
  pub changing : (j : ℕ) → j < rounds → (after R (suc j) s).vector ≡ (after R j s).vector → ⊥
