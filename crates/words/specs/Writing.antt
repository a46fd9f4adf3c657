-- How text is put into a buffer.
use Rattle.std.specs.Prelude.{ℕ, ◌+◌, ◌≡◌, List, ◌++◌, length, take, drop}

-- a text put at a place of a buffer: what stood before and after it stays
pub record Put (before : List ℕ) (at : ℕ) (text after : List ℕ) (r : ℕ) : Type 0 where
  pub end : r ≡ at + length text
  pub holds : after ≡ take at before ++ (text ++ drop (at + length text) before)
