-- Quotients rounded up.
use Rattle.std.specs.Prelude.{ℕ, ◌+◌, ◌-◌, ◌/◌}

-- ⌈a / b⌉
abbrev pub ceil : ℕ → ℕ → ℕ
ceil a b = (a + (b - 1)) / b
