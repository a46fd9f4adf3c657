-- Checksums.
use Rattle.std.specs.Prelude.{ℕ, ◌+◌, ◌*◌, ◌%◌, List}
use Rattle.std.specs.List.{fold}

-- the checksum h after the number x
abbrev pub after_number : ℕ → ℕ → ℕ
after_number h x = (h * 257 + x) % 1000003

-- the checksum h after all numbers of a list
abbrev pub after_numbers : ℕ → List ℕ → ℕ
after_numbers h xs = fold after_number h xs
