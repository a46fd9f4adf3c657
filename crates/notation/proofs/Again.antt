-- What the round trip says of one line.
use Prim.Native.Nat.{ℕ}
use mathlib.Core.Path.{◌≡◌}
use mathlib.Core.List.{List}
use lib.ListN.{drop}
use Rattle.words.specs.Finding.{next_line}
use Rattle.notation.specs.Rows.{Row, row_at}

-- a row without fault that has these bytes, and what follows its line is the rest of the text
pub record Read (t : List ℕ) (row : Row) (bytes rest : List ℕ) : Type 0 where
  pub cause : row.cause ≡ 0
  pub same : row.bytes ≡ bytes
  pub next : drop (next_line t row.at) t ≡ rest

-- the line at a place is such a row
abbrev pub RowAgain : List ℕ → ℕ → List ℕ → List ℕ → Type 0
RowAgain t at bytes rest = Read t (row_at t at) bytes rest
