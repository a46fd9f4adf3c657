-- What one evaluation of the solver can find.
use Rattle.std.specs.Prelude.{◌≡◌, ℕ, ◌≤◌, ◌<◌}

-- The three cases of the right side u at t.
pub data Told (d t u : ℕ) : Type 0 where
  found : u ≡ t → Told d t u
  over : (u ≡ t → ⊥) → d < u → Told d t u
  next : (u ≡ t → ⊥) → u ≤ d → Told d t u
