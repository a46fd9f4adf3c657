-- A line that show wrote is read as the record that it was written of.
use Prim.Native.Nat.{ℕ, zero, suc, ◌+◌, ◌-◌, ◌%◌, ◌<◌, ◌≤◌}
use mathlib.Core.Path.{◌≡◌, refl, sym, ap, ◌∙◌}
use mathlib.Core.Bool.{cond}
use mathlib.Core.List.{List, [], ◌∷◌, ◌++◌, append-nil, append_assoc}
use native.Mathlib.Omega.{arith}
use lib.Dec.{eqb}
use lib.ListN.{length, get_or, take, drop, replicate}
use Rattle.table.specs.Fields.{task_at, use_at}
use Rattle.table.specs.WellFormed.{TaskInRange, UseInRange}
use Rattle.held.proofs.Again.{task_bytes_lem, use_bytes_lem}
use Rattle.words.specs.Text.{text, decimal, newline, joined}
use Rattle.words.specs.Finding.{in_class, lead, word_start, word_of, next_line, same}
use Rattle.notation.specs.Columns.{name, least, most, width, wide, offset, field_at, value_bytes}
use Rattle.notation.specs.Rows.{Row, no_row, after, with_cell, cell_at, cells_from, row_by, row_at}
use Rattle.notation.specs.Showing.{spacing, cell_text, row_text}
use Rattle.notation.proofs.Again.{Read, RowAgain}
use Rattle.notation.proofs.Cells.{Fits, CellAgain, word_opens, past_front, run_ends, run_rest, word_is, cell_again}

-- ---- the cells of a line

-- what a line asks of k columns more after column c: each can be read again, two spaces come between, and a new line at the end
abbrev Line : (ℕ → ℕ) → ℕ → ℕ → Type 0
Line f zero c = Fits c (f c) × (spacing c ≡ newline)
Line f (suc k) c = Fits c (f c) × (spacing c ≡ text "  ") × Line f k (c + 1)

module _ (t : List ℕ) where
  -- the end of a line
  line_end : (at c : ℕ) (rest : List ℕ) → drop at t ≡ newline ++ rest → Read t (cells_from zero t at c) [] rest
  unfolding cells_from lead
  line_end at c rest e =
      let b = word_start t at in
      let there : drop b t ≡ newline ++ rest = run_rest t at 0 [] (newline ++ rest) e refl refl in
      let on : b + 0 + 1 ≡ b + 1 = omega arith in
      record {
        cause = ap (λ (w : List ℕ). cond {A = ℕ} (eqb (length w) 0) 0 6) (word_is t b [] (newline ++ rest) there refl refl);
        same = refl;
        next = ap (λ (n : ℕ). drop (n + 1) t) (run_ends t b 2 [] (newline ++ rest) there refl refl) ∙ ap (λ (n : ℕ). drop n t) on
            ∙ past_front t b newline rest there;
      }

  -- a cell before a row
  cell_then : (k at c v : ℕ) (bytes rest more : List ℕ) → CellAgain t (cell_at t at c) v more → Read t (cells_from k t (cell_at t at c).end (c + 1)) bytes rest
      → Read t (cells_from (suc k) t at c) (value_bytes c v ++ bytes) rest
  unfolding cells_from
  cell_then k at c v bytes rest more cell row =
      let first = cell_at t at c in
      let others = cells_from k t first.end (c + 1) in
      let is : with_cell c first others ≡ after (value_bytes c v) others =
      ap (λ (n : ℕ). cond (eqb n 0) (after (value_bytes c first.value) others) (no_row n c first.at)) cell.cause
      ∙ ap (λ (n : ℕ). after (value_bytes c n) others) cell.value in
      record {
        cause = ap (λ (r : Row). r.cause) is ∙ row.cause;
        same = ap (λ (r : Row). r.bytes) is ∙ ap (λ (x : List ℕ). value_bytes c v ++ x) row.same;
        next = ap (λ (r : Row). drop (next_line t r.at) t) is ∙ row.next;
      }

  -- a line's cells are read as they were written
  cells_again : (f : ℕ → ℕ) (k at c : ℕ) (gap rest : List ℕ) → Line f k c → lead (in_class 0) gap ≡ length gap
      → drop at t ≡ gap ++ (joined (λ (j : ℕ). cell_text j (f j)) (suc k) c ++ rest)
      → Read t (cells_from (suc k) t at c) (joined (λ (j : ℕ). value_bytes j (f j)) (suc k) c) rest
  unfolding joined lead
  cells_again f zero at c gap rest l blanks e =
      let alone : cell_text c (f c) ++ [] ≡ cell_text c (f c) = append-nil (cell_text c (f c)) in
      let cell = cell_again t at c (f c) gap rest l.0 blanks (e ∙ ap (λ (x : List ℕ). gap ++ (x ++ rest)) alone) in
      let end = line_end (cell_at t at c).end (c + 1) rest (cell.left ∙ ap (λ (x : List ℕ). x ++ rest) l.1) in
      cell_then zero at c (f c) [] rest (spacing c ++ rest) cell end
  cells_again f (suc k) at c gap rest l blanks e =
      let others = joined (λ (j : ℕ). cell_text j (f j)) (suc k) (c + 1) in
      let bytes = joined (λ (j : ℕ). value_bytes j (f j)) (suc k) (c + 1) in
      let cell = cell_again t at c (f c) gap (others ++ rest) l.0 blanks (e ∙ ap (λ (x : List ℕ). gap ++ x) (append_assoc (cell_text c (f c)) others rest)) in
      let row = cells_again f k (cell_at t at c).end (c + 1) (text "  ") rest l.2 refl (cell.left ∙ ap (λ (x : List ℕ). x ++ (others ++ rest)) l.1) in
      cell_then (suc k) at c (f c) bytes rest (spacing c ++ (others ++ rest)) cell row

  -- a line starts with the name of its first column
  line_opens : (f : ℕ → ℕ) (k at c : ℕ) (rest : List ℕ) → Fits c (f c) → drop at t ≡ joined (λ (j : ℕ). cell_text j (f j)) (suc k) c ++ rest
      → (drop (word_start t at) t ≡ joined (λ (j : ℕ). cell_text j (f j)) (suc k) c ++ rest) × (word_of t (word_start t at) ≡ name c)
  unfolding joined cell_text lead
  line_opens f k at c rest fits e =
      let others = joined (λ (j : ℕ). cell_text j (f j)) k (c + 1) in
      let tail : List ℕ = 32 ∷ ((replicate (width c - length (decimal (f c))) 32 ++ decimal (f c)) ++ (spacing c ++ (others ++ rest))) in
      let apart : (cell_text c (f c) ++ others) ++ rest ≡ name c ++ tail = simp append_assoc in
      let there = run_rest t at 0 [] (name c ++ tail) (e ∙ apart) refl (word_opens (name c) tail fits.word fits.some) in
      (there ∙ sym apart, word_is t (word_start t at) (name c) tail there fits.word refl)

-- ---- a task's line and a use's

module _ (t : List ℕ) (at : ℕ) where
  -- a line whose first word is the name of a task
  task_row_lem : word_of t (word_start t at) ≡ name 0 → row_at t at ≡ after (1 ∷ []) (cells_from 7 t (word_start t at) 0)
  unfolding row_at name same
  task_row_lem e = ap (row_by t (word_start t at)) e

  -- a line whose first word is the name of a use
  use_row_lem : word_of t (word_start t at) ≡ name 7 → row_at t at ≡ after (2 ∷ []) (cells_from 4 t (word_start t at) 7)
  unfolding row_at name same
  use_row_lem e = ap (row_by t (word_start t at)) e

  -- a line that starts with the name of its kind is read as the kind and the values that were written
  line_again : (f : ℕ → ℕ) (k c : ℕ) (kind all rest : List ℕ) → Line f k c → Fits c (f c)
      → (word_of t (word_start t at) ≡ name c → row_at t at ≡ after kind (cells_from (suc k) t (word_start t at) c))
      → kind ++ joined (λ (j : ℕ). value_bytes j (f j)) (suc k) c ≡ all
      → drop at t ≡ joined (λ (j : ℕ). cell_text j (f j)) (suc k) c ++ rest → RowAgain t at all rest
  unfolding lead
  line_again f k c kind all rest line fits row whole e =
      let opens = line_opens t f k at c rest fits e in
      let is = row opens.1 in
      let read = cells_again t f k (word_start t at) c [] rest line refl opens.0 in
      record {
        cause = ap (λ (r : Row). r.cause) is ∙ read.cause;
        same = ap (λ (r : Row). r.bytes) is ∙ ap (λ (x : List ℕ). kind ++ x) read.same ∙ whole;
        next = ap (λ (r : Row). drop (next_line t r.at) t) is ∙ read.next;
      }

module _ (s : List ℕ) (bytes : (i : ℕ) → get_or s i 0 < 256) (i : ℕ) where
  -- a byte is its own low byte
  low : (j : ℕ) → get_or s (i + j) 0 % 256 ≡ get_or s (i + j) 0
  low j = omega (arith, bytes (i + j))

  -- the fields of a task fit its columns
  task_line_lem : TaskInRange (task_at s i) → (task_at s i).priority ≤ 255 → Line (field_at s i) 6 0
  unfolding field_at wide offset name lead least most
  task_line_lem r p =
      (omega arith, refl, (omega arith, refl, (omega arith, refl, (omega arith, refl, (omega arith, refl, (omega arith, refl, (omega arith, refl)))))))

  -- the fields of a use fit its columns
  use_line : UseInRange (use_at s i) → 1 ≤ (use_at s i).priority → (use_at s i).priority ≤ 255 → Line (field_at s i) 3 7
  unfolding field_at wide offset name lead least most
  use_line r p q = (omega arith, refl, (omega arith, refl, (omega (arith, bytes (i + 3)), refl, (omega arith, refl))))

  -- the kind of a task and the values of its columns, as bytes, are its record
  task_values : get_or s i 0 ≡ 1 → i + 20 ≤ length s → (1 ∷ []) ++ joined (λ (j : ℕ). value_bytes j (field_at s i j)) 7 0 ≡ take 20 (drop i s)
  unfolding field_at wide offset value_bytes joined
  task_values k h = cc (task_bytes_lem s bytes i h k, low 1, low 2, low 3)

  -- and those of a use are its
  use_values : get_or s i 0 ≡ 2 → i + 8 ≤ length s → (2 ∷ []) ++ joined (λ (j : ℕ). value_bytes j (field_at s i j)) 4 7 ≡ take 8 (drop i s)
  unfolding field_at wide offset value_bytes joined
  use_values k h = cc (use_bytes_lem s bytes i h k, low 1, low 2, low 3)

-- the line that show writes of a task is read as its record
pub task_again : (s : List ℕ) → ((i : ℕ) → get_or s i 0 < 256) → (t rest : List ℕ) (at i : ℕ) → TaskInRange (task_at s i) → (task_at s i).priority ≤ 255
    → get_or s i 0 ≡ 1 → i + 20 ≤ length s → drop at t ≡ row_text s 0 7 i ++ rest → RowAgain t at (take 20 (drop i s)) rest
unfolding row_text
task_again s bytes t rest at i r p k h e =
    let line = task_line_lem s bytes i r p in
    line_again t at (field_at s i) 6 0 (1 ∷ []) (take 20 (drop i s)) rest line line.0 (task_row_lem t at) (task_values s bytes i k h) e

-- the line that show writes of a use is read as its record
pub use_again : (s : List ℕ) → ((i : ℕ) → get_or s i 0 < 256) → (t rest : List ℕ) (at i : ℕ) → UseInRange (use_at s i) → 1 ≤ (use_at s i).priority
    → (use_at s i).priority ≤ 255 → get_or s i 0 ≡ 2 → i + 8 ≤ length s → drop at t ≡ row_text s 7 4 i ++ rest → RowAgain t at (take 8 (drop i s)) rest
unfolding row_text
use_again s bytes t rest at i r p q k h e =
    let line = use_line s bytes i r p q in
    line_again t at (field_at s i) 3 7 (2 ∷ []) (take 8 (drop i s)) rest line line.0 (use_row_lem t at) (use_values s bytes i k h) e
