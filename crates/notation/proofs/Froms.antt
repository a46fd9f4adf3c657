-- What is taken of a line stands at its start or after it, and has few bytes.
use Prim.Native.Nat.{ℕ, zero, suc, ◌+◌, ◌*◌, ◌%◌, ◌≤◌}
use mathlib.Core.List.{List, [], ◌∷◌}
use native.Mathlib.Omega.{arith}
use lib.Dec.{ltb, eqb}
use lib.ListN.{length, length-append}
use Rattle.held.specs.Writing.{word_bytes}
use Rattle.words.specs.Finding.{run_end, word_start, word_of, same, is_number, value_of}
use Rattle.notation.specs.Columns.{name, least, most, wide, value_bytes}
use Rattle.notation.specs.Rows.{Cell, Row, number_at, cell_at, cells_from, row_at}
use Rattle.notation.proofs.Choosing.{chosen}

module _ (s : List ℕ) where
  -- a cell's word and end, from a place on
  abbrev From : ℕ → Cell → Type 0
  From at cell = (at ≤ cell.at) × (at ≤ cell.end)

  number_from : (at c : ℕ) → From at (number_at s at c)
  unfolding number_at
  number_from at c =
      let b = word_start s at in
      let v = value_of (word_of s b) in
      chosen (From at) (is_number (word_of s b))
      (chosen (From at) (ltb v (least c)) (omega arith, omega arith) (chosen (From at) (ltb (most c) v) (omega arith, omega arith) (omega arith, omega arith)))
      (omega arith, omega arith)

  cell_from : (at c : ℕ) → From at (cell_at s at c)
  unfolding cell_at
  cell_from at c =
      let b = word_start s at in
      let n = number_from (run_end s b 1) c in
      chosen (From at) (same (word_of s b) (name c)) (omega (arith, n.0), omega (arith, n.1)) (omega arith, omega arith)

  cells_from_lem : (k at c : ℕ) → at ≤ (cells_from k s at c).at
  unfolding cells_from
  cells_from_lem zero at c = omega arith
  cells_from_lem (suc k) at c =
      let cell = cell_from at c in
      let more = cells_from_lem k (cell_at s at c).end (c + 1) in
      chosen (λ (r : Row). at ≤ r.at) (eqb (cell_at s at c).cause 0) (omega (arith, cell.1, more)) cell.0

  -- the word that a row ends at, or at which it has its fault
  pub row_from : (at : ℕ) → at ≤ (row_at s at).at
  unfolding row_at
  row_from at =
      let b = word_start s at in
      let w = word_of s b in
      chosen (λ (r : Row). at ≤ r.at) (eqb (length w) 0) (omega arith)
      (chosen (λ (r : Row). at ≤ r.at) (same w (name 0)) (omega (arith, cells_from_lem 7 b 0))
      (chosen (λ (r : Row). at ≤ r.at) (same w (name 7)) (omega (arith, cells_from_lem 4 b 7)) (omega arith)))

  -- a value has at most four bytes
  value_few : (c v : ℕ) → length (value_bytes c v) ≤ 4
  unfolding value_bytes
  value_few c v = chosen (λ (x : List ℕ). length x ≤ 4) (wide c) {x = word_bytes v} {y = v % 256 ∷ []} (omega arith) (omega arith)

  cells_few : (k at c : ℕ) → length (cells_from k s at c).bytes ≤ 4 * k
  unfolding cells_from
  cells_few zero at c = omega arith
  cells_few (suc k) at c =
      let cell = cell_at s at c in
      let more = cells_few k cell.end (c + 1) in
      let bytes = (cells_from k s cell.end (c + 1)).bytes in
      chosen (λ (r : Row). length r.bytes ≤ 4 * suc k) (eqb cell.cause 0)
      (omega (arith, length-append (value_bytes c cell.value) bytes, value_few c cell.value, more)) (omega arith)

  -- a row has at most 29 bytes
  pub row_few : (at : ℕ) → length (row_at s at).bytes ≤ 29
  unfolding row_at
  row_few at =
      let b = word_start s at in
      let w = word_of s b in
      chosen (λ (r : Row). length r.bytes ≤ 29) (eqb (length w) 0) (omega arith)
      (chosen (λ (r : Row). length r.bytes ≤ 29) (same w (name 0)) (omega (arith, cells_few 7 b 0))
      (chosen (λ (r : Row). length r.bytes ≤ 29) (same w (name 7)) (omega (arith, cells_few 4 b 7)) (omega arith)))
