-- Laws of a line that is taken off a text, and of the bytes that are put for it.
use Prim.Native.Nat.{ℕ, suc, ◌+◌, ◌*◌, ◌-◌, ◌%◌, ◌≤◌, ◌<◌}
use mathlib.Core.Path.{◌≡◌, refl, sym, ap, ap₂, subst, ◌∙◌}
use mathlib.Core.Bool.{Bool, true, false, cond}
use mathlib.Core.List.{List, [], ◌∷◌, ◌++◌, append_assoc, append-nil}
use native.Mathlib.Omega.{arith}
use borrow.Author.Tests.{lt-ltb, le-ltb, eq-eqb, ne_eqb}
use lib.Dec.{eqb}
use lib.ListN.{length, take, drop, set, length-append, length-drop}
use lib.Seq.{sets, sets-eq, length-take-le}
use Rattle.std.proofs.Common.{Result, Ok, Err, Option, Some, None, ◌≢◌}
use Rattle.searches.proofs.Testing.{impossible}
use Rattle.held.specs.Writing.{word_bytes}
use Rattle.words.specs.Finding.{lead, in_class, run_end, word_start, word_of, same, is_number, value_of}
use Rattle.words.specs.Writing.{Put}
use Rattle.words.proofs.Puts.{put_none, put_length, put_then}
use Rattle.notation.specs.declared.causes.Cause.{Cause}
use Rattle.notation.specs.declared.causes.Cause.TheVariants.{FirstWord}
use Rattle.notation.specs.declared.columns.Column.{Column}
use Rattle.notation.specs.declared.kinds.Kind.{Kind}
use Rattle.notation.specs.declared.kinds.Kind.TheVariants.{Task, Use}
use Rattle.notation.specs.declared.rows.Cell.{Cell as Value}
use Rattle.notation.specs.declared.rows.Misfit.{Misfit}
use Rattle.notation.specs.declared.rows.Taken.{Taken}
use Rattle.notation.specs.Causes.{cause_number}
use Rattle.notation.specs.Columns.{column_number, column_or_none, name, least, most, wide, value_bytes}
use Rattle.notation.specs.Kinds.{kind_number, kind_named, first_column, column_count}
use Rattle.notation.specs.Rows.{Cell, no_cell, value_cell, number_at, cell_at, Row, no_row, after, row_end, with_cell, cells_from, row_by, row_at}
use Rattle.notation.specs.Taking.{Found, CellRead, RowRead, TakenPut}

-- ---- a word of a text

module _ {s : List ℕ} {at b e : ℕ} (f : Found s at b e) where
  -- the part of the text between its ends is the word
  part_word : take (e - b) (drop b s) ≡ word_of s b
  part_word =
      let z : e - b ≡ lead (in_class 1) (drop b s) = omega (arith, f.end) in
      ap (λ (n : ℕ). take n (drop b s)) z

  -- it has as many bytes as lie between them
  part_length : length (take (e - b) (drop b s)) ≡ e - b
  part_length = length-take-le (e - b) (drop b s) (omega (arith, length-drop b s, f.last))

  -- it is empty where its ends are one place
  word_none : b ≡ e → eqb (length (take (e - b) (drop b s))) 0 ≡ true
  word_none h = eq-eqb (length (take (e - b) (drop b s))) 0 (omega (arith, part_length))

  -- and nowhere else
  word_some : (b ≡ e → ⊥) → eqb (length (take (e - b) (drop b s))) 0 ≡ false
  word_some h = ne_eqb (length (take (e - b) (drop b s))) 0 (λ z. h (omega (arith, part_length, f.end)))

-- ---- a cell

-- a cell without a value is what is wrong with its word
pub cell_misfit : {s : List ℕ} {cell : Cell} {m : Misfit} (cause : Cause) (column : Column) (b : ℕ) → 1 ≤ cause_number cause → no_cell (cause_number cause) b ≡ cell
    → m ≡ record { cause = cause; column = Some column; at = b } → b ≤ length s → CellRead s (column_number column) cell (Err m)
cell_misfit cause column b some e is l = record {
  cause = ap (λ (x : Cell). x.cause) (sym e) ∙ ap (λ (x : Misfit). cause_number x.cause) (sym is);
  some = omega (arith, ap (λ (x : Cell). x.cause) e);
  named = ap (λ (x : Misfit). column_or_none x.column) (sym is);
  at = ap (λ (x : Cell). x.at) (sym e) ∙ ap (λ (x : Misfit). x.at) (sym is);
  within = omega (arith, ap (λ (x : Misfit). x.at) is);
}

module _ {s : List ℕ} {at b e : ℕ} (f : Found s at b e) (c : ℕ) where
  -- the value of a column is what the word at its place says
  number_of : value_cell c b e (take (e - b) (drop b s)) ≡ number_at s at c
  unfolding number_at
  number_of =
      ap₂ (λ (w : List ℕ) (k : ℕ). value_cell c b k w) (part_word f) f.end
      ∙ ap (λ (n : ℕ). value_cell c n (run_end s n 1) (word_of s n)) f.start

  -- no number
  pub number_none : is_number (take (e - b) (drop b s)) ≡ false → no_cell 3 b ≡ number_at s at c
  number_none n = sym (simp n) ∙ number_of

  -- a number v below the column's range
  pub number_low : (v : ℕ) → is_number (take (e - b) (drop b s)) ≡ true → v ≡ value_of (take (e - b) (drop b s)) → v < least c
      → no_cell 4 b ≡ number_at s at c
  number_low v n h l = sym (simp (n, ← h, lt-ltb v (least c) l)) ∙ number_of

  -- one above it
  pub number_high : (v : ℕ) → is_number (take (e - b) (drop b s)) ≡ true → v ≡ value_of (take (e - b) (drop b s)) → least c ≤ v → most c < v
      → no_cell 5 b ≡ number_at s at c
  number_high v n h l m = sym (simp (n, ← h, le-ltb v (least c) l, lt-ltb (most c) v m)) ∙ number_of

  -- one within it
  pub number_is : (v : ℕ) → is_number (take (e - b) (drop b s)) ≡ true → v ≡ value_of (take (e - b) (drop b s)) → least c ≤ v → v ≤ most c
      → CellRead s c (number_at s at c) (Ok (record { end = e; value = v }))
  number_is v n h l m =
      let is : number_at s at c ≡ record { cause = 0; at = b; end = e; value = v } =
      sym number_of ∙ simp (n, ← h, le-ltb v (least c) l, le-ltb (most c) v m) in
      record { cause = ap (λ (x : Cell). x.cause) is; end = ap (λ (x : Cell). x.end) is; value = ap (λ (x : Cell). x.value) is; within = f.last }

  -- the name of a column, and its value behind it
  cell_of : cond (same (take (e - b) (drop b s)) (name c)) (number_at s e c) (no_cell 2 b) ≡ cell_at s at c
  unfolding cell_at
  cell_of =
      ap₂ (λ (w : List ℕ) (k : ℕ). cond (same w (name c)) (number_at s k c) (no_cell 2 b)) (part_word f) f.end
      ∙ ap (λ (n : ℕ). cond (same (word_of s n) (name c)) (number_at s (run_end s n 1) c) (no_cell 2 n)) f.start

  -- the name is there
  pub cell_named : same (take (e - b) (drop b s)) (name c) ≡ true → number_at s e c ≡ cell_at s at c
  cell_named n = sym (simp n) ∙ cell_of

  -- another word is there
  pub cell_other : same (take (e - b) (drop b s)) (name c) ≡ false → no_cell 2 b ≡ cell_at s at c
  cell_other n = sym (simp n) ∙ cell_of

-- ---- bytes put at a place

-- bytes stored one after the other are put there
put_sets : (o t : List ℕ) (at : ℕ) → at + length t ≤ length o → Put o at t (sets o at t) (at + length t)
put_sets o t at l = record { end = refl; holds = sets-eq t o at l ∙ append_assoc (take at o) t (drop (at + length t) o) }

-- a value of four bytes
pub put_wide : (o : List ℕ) (at c v : ℕ) (n : List ℕ) → at + 4 ≤ length o → wide c ≡ true → n ≡ sets o at (word_bytes v)
    → Put o at (value_bytes c v) n (at + 4)
unfolding value_bytes
put_wide o at c v n l w e = rw (w, e) (put_sets o (word_bytes v) at l)

-- a value of one byte
pub put_narrow : (o : List ℕ) (at c v : ℕ) → at + 1 ≤ length o → wide c ≡ false → Put o at (value_bytes c v) (set o at (v % 256)) (at + 1)
unfolding value_bytes
put_narrow o at c v l w = rw w (put_sets o (v % 256 ∷ []) at l)

-- ---- a line's cells, one after the other

-- bytes before bytes before a row are both before it
after_after : (p q : List ℕ) (row : Row) → after p (after q row) ≡ after (p ++ q) row
after_after p q row = ap (λ (x : List ℕ). record { cause = row.cause; column = row.column; at = row.at; bytes = x }) (sym (append_assoc p q row.bytes))

-- the cells after i of k columns are the next one's and those after it
cells_step : (k i c : ℕ) (s : List ℕ) (place : ℕ) → i < k
    → cells_from (k - i) s place c ≡ with_cell c (cell_at s place c) (cells_from (k - (i + 1)) s (cell_at s place c).end (c + 1))
unfolding cells_from
cells_step k i c s place h =
    let z : k - i ≡ suc (k - (i + 1)) = omega arith in
    ap (λ (j : ℕ). cells_from j s place c) z

-- what is so after i of k cells are put: the bytes that were put, and what the rest of the line adds to them
pub record Filled (s : List ℕ) (at first k : ℕ) (before : List ℕ) (n : ℕ) (now : List ℕ) (i place end : ℕ) : Type 0 where
  pub bytes : List ℕ
  pub put : Put before n bytes now end
  pub rest : cells_from k s at first ≡ after bytes (cells_from (k - i) s place (first + i))
  pub within : place ≤ length s
  pub few : i ≤ k
  pub most : end ≤ n + 4 * i

-- before the first cell
pub filled_none : (s : List ℕ) (at first k : ℕ) (o : List ℕ) (n : ℕ) → at ≤ length s → Filled s at first k o n o 0 at n
filled_none s at first k o n l =
    let all : k ≡ k - 0 = omega arith in
    let here : first ≡ first + 0 = omega arith in
    record {
      bytes = [];
      put = put_none o n;
      rest = ap₂ (λ (j c : ℕ). cells_from j s at c) all here;
      within = l;
      few = omega arith;
      most = omega arith;
    }

module _ {s : List ℕ} {at first k : ℕ} {before : List ℕ} {n : ℕ} {now : List ℕ} {i place end : ℕ}
    (f : Filled s at first k before n now i place end) (room : n + 4 * k ≤ length before) where
  -- the buffer is as long as before
  pub filled_sized : length now ≡ length before
  filled_sized = put_length before n f.bytes now end (omega (arith, f.put.end, f.most, f.few)) f.put

  -- a cell more
  pub filled_more : (c : ℕ) → c ≡ first + i → (v : Value) (next : List ℕ) (r : ℕ) → i < k → CellRead s c (cell_at s place c) (Ok v)
      → Put now end (value_bytes c v.value) next r → r ≤ end + 4
      → Filled s at first k before n next (i + 1) v.end r
  filled_more c here v next r h read p l =
      let cell = cell_at s place c in
      let bytes = value_bytes c v.value in
      let on : c + 1 ≡ first + (i + 1) = omega arith in
      let one : with_cell c cell (cells_from (k - (i + 1)) s cell.end (c + 1)) ≡ after bytes (cells_from (k - (i + 1)) s v.end (first + (i + 1))) =
      rw (eq-eqb cell.cause 0 read.cause, read.value, read.end, on) refl in
      record {
        bytes = f.bytes ++ bytes;
        put = put_then before n f.bytes bytes now next end r (omega (arith, f.put.end, f.most, f.few)) f.put p;
        rest = f.rest ∙ ap (λ (x : ℕ). after f.bytes (cells_from (k - i) s place x)) (sym here)
            ∙ ap (after f.bytes) (cells_step k i c s place h ∙ one)
            ∙ after_after f.bytes bytes (cells_from (k - (i + 1)) s v.end (first + (i + 1)));
        within = read.within;
        few = omega arith;
        most = omega (arith, f.most);
      }

  -- what is so of a line whose rest has no bytes: the bytes that were put are all
  all_put : (row : Row) → row.bytes ≡ [] → cells_from k s at first ≡ after f.bytes row
      → Put before n (cells_from k s at first).bytes now (n + length (cells_from k s at first).bytes)
  all_put row none is =
      let all : (cells_from k s at first).bytes ≡ f.bytes =
      ap (λ (x : Row). x.bytes) is ∙ ap (λ (x : List ℕ). f.bytes ++ x) none ∙ append-nil f.bytes in
      subst (λ (x : List ℕ). Put before n x now (n + length x)) (sym all) (subst (Put before n f.bytes now) f.put.end f.put)

  -- a cell at fault: the line ends there
  pub filled_fault : (c : ℕ) → c ≡ first + i → (m : Misfit) → i < k → (cell_at s place c).cause ≢ 0 → CellRead s c (cell_at s place c) (Err m)
      → TakenPut s (cells_from k s at first) before n now (Err m)
  filled_fault c here m h z read =
      let cell = cell_at s place c in
      let faulty : cells_from k s at first ≡ after f.bytes (no_row cell.cause c cell.at) =
      f.rest ∙ ap (λ (x : ℕ). after f.bytes (cells_from (k - i) s place x)) (sym here)
      ∙ ap (after f.bytes) (cells_step k i c s place h ∙ rw (ne_eqb cell.cause 0 z) refl) in
      record { read = rw faulty read; put = all_put (no_row cell.cause c cell.at) refl faulty }

  -- no cell is left: the line's end
  pub filled_end : (r : Result Taken Misfit) → k ≤ i → RowRead s (row_end s (word_start s place)) end r
      → TakenPut s (cells_from k s at first) before n now r
  unfolding cells_from
  filled_end r h read =
      let last = row_end s (word_start s place) in
      let z : k - i ≡ 0 = omega arith in
      let ended : cells_from k s at first ≡ after f.bytes last =
      f.rest ∙ ap (λ (j : ℕ). after f.bytes (cells_from j s place (first + i))) z in
      record { read = rw ended (go r read); put = all_put last refl ended }
    where
      go : (q : Result Taken Misfit) → RowRead s (row_end s (word_start s place)) end q → RowRead s (after f.bytes (row_end s (word_start s place))) n q
      go (Ok taken) w = record {
        cause = w.cause;
        at = w.at;
        count = omega (arith, w.count, f.put.end, length-append f.bytes []);
        within = w.within;
      }
      go (Err m) w = record { cause = w.cause; some = w.some; named = w.named; at = w.at; within = w.within }

-- ---- a whole line

-- a line without a record leaves the bytes as they are
none_put : (s : List ℕ) (row : Row) (o : List ℕ) (n cause b : ℕ) (r : Result Taken Misfit) → row ≡ no_row cause 11 b → RowRead s (no_row cause 11 b) n r
    → TakenPut s row o n o r
none_put s row o n cause b r e read =
    let here : n ≡ n + 0 = omega arith in
    rw e (record { read = read; put = subst (Put o n [] o) here (put_none o n) })

-- a record's kind, and the bytes of its cells after it
kind_put : (s : List ℕ) (row cells : Row) (o : List ℕ) (n kind : ℕ) (now : List ℕ) (r : Result Taken Misfit)
    → row ≡ after (kind ∷ []) cells → n + 1 ≤ length o → TakenPut s cells (set o n kind) (n + 1) now r → TakenPut s row o n now r
kind_put s row cells o n kind now r e l t =
    let long : n + 1 + length cells.bytes ≡ n + length (kind ∷ cells.bytes) = omega arith in
    rw e (record {
      read = go r t.read;
      put = subst (Put o n (kind ∷ cells.bytes) now) long
          (put_then o n (kind ∷ []) cells.bytes (set o n kind) now (n + 1) (n + 1 + length cells.bytes) l (put_sets o (kind ∷ []) n l) t.put);
    })
  where
    go : (q : Result Taken Misfit) → RowRead s cells (n + 1) q → RowRead s (after (kind ∷ []) cells) n q
    go (Ok taken) w = record { cause = w.cause; at = w.at; count = omega (arith, w.count); within = w.within }
    go (Err m) w = record { cause = w.cause; some = w.some; named = w.named; at = w.at; within = w.within }

module _ {s : List ℕ} {at b e : ℕ} (f : Found s at b e) (o : List ℕ) (n : ℕ) where
  -- the line is what its first word says
  row_of : row_at s at ≡ row_by s b (take (e - b) (drop b s))
  unfolding row_at
  row_of = sym (ap (row_by s b) (part_word f) ∙ ap (λ (n : ℕ). row_by s n (word_of s n)) f.start)

  -- an empty line
  pub row_none : b ≡ e → TakenPut s (row_at s at) o n o (Ok (record { at = b; count = n }))
  row_none h =
      none_put s (row_at s at) o n 0 b (Ok (record { at = b; count = n })) (row_of ∙ simp (word_none f h))
      (record { cause = refl; at = refl; count = omega arith; within = f.first })

  -- what stands for the row of a line that a kind's name begins
  abbrev row_as : Kind → Row
  row_as kind = after (kind_number kind ∷ []) (cells_from (column_count kind) s b (first_column kind))

  -- a word that names a kind, by its two tests
  kind_row : (p q : Bool) (kind : Kind) → cond p (Some Task) (cond q (Some Use) None) ≡ Some kind
      → cond p (row_as Task) (cond q (row_as Use) (no_row 1 11 b)) ≡ row_as kind
  kind_row true q Task h = refl
  kind_row true q Use h = absurd (impossible cc)
  kind_row false true Task h = absurd (impossible cc)
  kind_row false true Use h = refl
  kind_row false false kind h = absurd (impossible cc)

  -- and one that names none
  none_row : (p q : Bool) → ◌≡◌ {A = Option Kind} (cond p (Some Task) (cond q (Some Use) None)) None
      → cond p (row_as Task) (cond q (row_as Use) (no_row 1 11 b)) ≡ no_row 1 11 b
  none_row true q h = absurd (impossible cc)
  none_row false true h = absurd (impossible cc)
  none_row false false h = refl

  -- a line that a kind's name begins
  pub row_kind : (kind : Kind) (now : List ℕ) (r : Result Taken Misfit) → (b ≡ e → ⊥) → kind_named (take (e - b) (drop b s)) ≡ Some kind → n + 1 ≤ length o
      → TakenPut s (cells_from (column_count kind) s b (first_column kind)) (set o n (kind_number kind)) (n + 1) now r → TakenPut s (row_at s at) o n now r
  row_kind kind now r h named l t =
      let w = take (e - b) (drop b s) in
      kind_put s (row_at s at) (cells_from (column_count kind) s b (first_column kind)) o n (kind_number kind) now r
      (row_of ∙ simp (word_some f h) (kind_row (same w (name 0)) (same w (name 7)) kind named)) l t

  -- a line that another word begins
  pub row_other : (b ≡ e → ⊥) → kind_named (take (e - b) (drop b s)) ≡ None
      → TakenPut s (row_at s at) o n o (Err (record { cause = FirstWord; column = None; at = b }))
  row_other h none =
      let w = take (e - b) (drop b s) in
      none_put s (row_at s at) o n 1 b (Err (record { cause = FirstWord; column = None; at = b }))
      (row_of ∙ simp (word_some f h) (none_row (same w (name 0)) (same w (name 7)) none))
      (record { cause = refl; some = omega arith; named = refl; at = refl; within = f.first })
