-- A line without fault is a whole record with each value in its column's range.
use Prim.Native.Nat.{ℕ, zero, suc, ◌+◌, ◌/◌, ◌%◌, ◌≤◌}
use mathlib.Core.Path.{◌≡◌, refl, sym, ap, ◌∙◌}
use mathlib.Core.Logic.{◌⊎◌, inl, inr, ⊎_elim}
use mathlib.Core.Bool.{Bool, true, false, cond}
use mathlib.Core.List.{List, [], ◌∷◌, ◌++◌}
use native.Mathlib.Omega.{arith}
use borrow.Author.Tests.{ltb-false, eqb-true, eqb-false}
use lib.Dec.{ltb, eqb}
use lib.ListN.{length, get_or, length-append}
use lib.Seq.{get_or-append-add}
use Rattle.table.specs.Fields.{word_at, task_at, use_at}
use Rattle.held.specs.Writing.{word_bytes}
use Rattle.held.proofs.Laying.{word_back}
use Rattle.words.specs.Finding.{word_start, word_of, run_end, same, is_number, value_of}
use Rattle.notation.specs.Columns.{name, least, most, wide, value_bytes}
use Rattle.notation.specs.Rows.{Cell, Row, no_row, after, no_cell, with_cell, number_at, cell_at, cells_from, row_at}
use Rattle.notation.proofs.Choosing.{chosen}

-- ---- a cell

-- a cell without fault has a value in its column's range
abbrev Good : ℕ → Cell → Type 0
Good c cell = cell.cause ≡ 0 → (least c ≤ cell.value) × (cell.value ≤ most c)

-- a value by its two tests
tested : (c b e v : ℕ) (y z : Bool) → ltb v (least c) ≡ y → ltb (most c) v ≡ z
    → Good c (cond y (no_cell 4 b) (cond z (no_cell 5 b) (record { cause = 0; at = b; end = e; value = v })))
tested c b e v true z p q h = absurd (let i : ◌≡◌ {A = ℕ} 4 0 = h in omega arith)
tested c b e v false true p q h = absurd (let i : ◌≡◌ {A = ℕ} 5 0 = h in omega arith)
tested c b e v false false p q h = (ltb-false v (least c) p, ltb-false (most c) v q)

-- the number of a column
number_good : (s : List ℕ) (at c : ℕ) → Good c (number_at s at c)
unfolding number_at
number_good s at c =
    let b = word_start s at in
    let v = value_of (word_of s b) in
    chosen (Good c) (is_number (word_of s b)) (tested c b (run_end s b 1) v (ltb v (least c)) (ltb (most c) v) refl refl)
    (λ h. absurd (let i : ◌≡◌ {A = ℕ} 3 0 = h in omega arith))

-- its name and number
cell_good : (s : List ℕ) (at c : ℕ) → Good c (cell_at s at c)
unfolding cell_at
cell_good s at c =
    let b = word_start s at in
    chosen (Good c) (same (word_of s b) (name c)) (number_good s (run_end s b 1) c) (λ h. absurd (let i : ◌≡◌ {A = ℕ} 2 0 = h in omega arith))

-- ---- the cells of a line

-- a column's value in its range, as bytes before others of which something is so
record Valued (c : ℕ) (bytes : List ℕ) (R : List ℕ → Type 0) : Type 0 where
  value : ℕ
  low : least c ≤ value
  high : value ≤ most c
  rest : List ℕ
  is : bytes ≡ value_bytes c value ++ rest
  left : R rest

-- the values of k columns from c on, and nothing after them
abbrev Values : ℕ → ℕ → List ℕ → Type 0
Values zero c bytes = bytes ≡ []
Values (suc k) c bytes = Valued c bytes (Values k (c + 1))

-- cells without fault are their values
cells_values : (k : ℕ) (s : List ℕ) (at c : ℕ) → (cells_from k s at c).cause ≡ 0 → Values k c (cells_from k s at c).bytes
unfolding cells_from
cells_values zero s at c e = refl
cells_values (suc k) s at c e =
    go (cell_at s at c) (cell_good s at c) (cells_from k s (cell_at s at c).end (c + 1)) (cells_values k s (cell_at s at c).end (c + 1)) e
  where
    go : (cell : Cell) → Good c cell → (row : Row) → (row.cause ≡ 0 → Values k (c + 1) row.bytes)
        → (with_cell c cell row).cause ≡ 0 → Values (suc k) c (with_cell c cell row).bytes
    go cell good row more e = by (eqb cell.cause 0) refl e
      where
        by : (b : Bool) → eqb cell.cause 0 ≡ b → (cond b (after (value_bytes c cell.value) row) (no_row cell.cause c cell.at)).cause ≡ 0
            → Values (suc k) c (cond b (after (value_bytes c cell.value) row) (no_row cell.cause c cell.at)).bytes
        by true q h =
            let g = good (eqb-true cell.cause 0 q) in
            record { value = cell.value; low = g.0; high = g.1; rest = row.bytes; is = refl; left = more h }
        by false q h = absurd (eqb-false cell.cause 0 q h)

-- a kind before the values of k columns from c on
record Kinded (kind k c : ℕ) (bytes : List ℕ) : Type 0 where
  values : List ℕ
  is : bytes ≡ kind ∷ values
  left : Values k c values

-- a task's values or a use's
abbrev Kinds : List ℕ → Type 0
Kinds bytes = Kinded 1 7 0 bytes ⊎ Kinded 2 4 7 bytes

-- by what its first word is, a line without fault that is not empty is a kind and its values
kind_values : (b : ℕ) (x y : Row) (p q r : Bool) → (x.cause ≡ 0 → Values 7 0 x.bytes) → (y.cause ≡ 0 → Values 4 7 y.bytes)
    → (cond p (no_row 0 11 b) (cond q (after (1 ∷ []) x) (cond r (after (2 ∷ []) y) (no_row 1 11 b)))).cause ≡ 0
    → 1 ≤ length (cond p (no_row 0 11 b) (cond q (after (1 ∷ []) x) (cond r (after (2 ∷ []) y) (no_row 1 11 b)))).bytes
    → Kinds (cond p (no_row 0 11 b) (cond q (after (1 ∷ []) x) (cond r (after (2 ∷ []) y) (no_row 1 11 b)))).bytes
kind_values b x y true q r f g e some = absurd (omega arith)
kind_values b x y false true r f g e some = inl (record { values = x.bytes; is = refl; left = f e })
kind_values b x y false false true f g e some = inr (record { values = y.bytes; is = refl; left = g e })
kind_values b x y false false false f g e some = absurd (omega arith)

-- so any such line is
row_values : (s : List ℕ) (at : ℕ) → (row_at s at).cause ≡ 0 → 1 ≤ length (row_at s at).bytes → Kinds (row_at s at).bytes
unfolding row_at
row_values s at =
    let b = word_start s at in
    let w = word_of s b in
    kind_values b (cells_from 7 s b 0) (cells_from 4 s b 7) (eqb (length w) 0) (same w (name 0)) (same w (name 7)) (cells_values 7 s b 0) (cells_values 4 s b 7)

-- ---- a record behind others

module _ (records bytes : List ℕ) where
  -- a byte of what stands behind
  behind : (i : ℕ) → get_or (records ++ bytes) (length records + i) 0 ≡ get_or bytes i 0
  behind i = get_or-append-add records bytes i 0

  -- a word of it
  word_behind : (i w : ℕ) → w ≤ 1000000 → get_or bytes i 0 ≡ w % 256 → get_or bytes (i + 1) 0 ≡ w / 256 % 256 → get_or bytes (i + 2) 0 ≡ w / 65536 % 256
      → get_or bytes (i + 3) 0 ≡ w / 16777216 % 256 → word_at (records ++ bytes) (length records + i) ≡ w
  unfolding word_at
  word_behind i w h a b c d =
      let one : length records + i + 1 ≡ length records + (i + 1) = omega arith in
      let two : length records + i + 2 ≡ length records + (i + 2) = omega arith in
      let three : length records + i + 3 ≡ length records + (i + 3) = omega arith in
      rw (one, two, three, behind i, behind (i + 1), behind (i + 2), behind (i + 3), a, b, c, d) (word_back w (omega arith))

  -- its first byte
  kind_behind : get_or (records ++ bytes) (length records) 0 ≡ get_or bytes 0 0
  kind_behind = let z : length records + 0 ≡ length records = omega arith in ap (λ (k : ℕ). get_or (records ++ bytes) k 0) (sym z) ∙ behind 0

-- a whole task stands at a place, the last of the bytes, with each value in its column's range
pub record TaskWhole (all : List ℕ) (at : ℕ) : Type 0 where
  pub kind : get_or all at 0 ≡ 1
  pub size : length all ≡ at + 20
  pub priority : 1 ≤ (task_at all at).priority
  pub priority_most : (task_at all at).priority ≤ 255
  pub sleeps : (task_at all at).sleeps ≤ 64
  pub run : 1 ≤ (task_at all at).run
  pub sleep : (task_at all at).sleep ≤ 1000000
  pub period : (task_at all at).period ≤ 1000000

-- and a whole use
pub record UseWhole (all : List ℕ) (at : ℕ) : Type 0 where
  pub kind : get_or all at 0 ≡ 2
  pub size : length all ≡ at + 8
  pub resource : 1 ≤ (use_at all at).resource
  pub resource_most : (use_at all at).resource ≤ 16
  pub times : 1 ≤ (use_at all at).times
  pub length : 1 ≤ (use_at all at).length
  pub length_most : (use_at all at).length ≤ 1000000

-- a task's values
task_whole : (records bytes : List ℕ) → Kinded 1 7 0 bytes → TaskWhole (records ++ bytes) (length records)
unfolding value_bytes wide least most
task_whole records bytes k =
    let a = k.left in
    let b = a.left in
    let c = b.left in
    let d = c.left in
    let e = d.left in
    let f = e.left in
    let g = f.left in
    let laid : List ℕ = 1 ∷ a.value % 256 ∷ b.value % 256 ∷ c.value % 256
    ∷ (word_bytes d.value ++ (word_bytes e.value ++ (word_bytes f.value ++ word_bytes g.value))) in
    let is : bytes ≡ laid = cc in
    rw is (record {
      kind = kind_behind records laid;
      size = length-append records laid;
      priority = omega (arith, behind records laid 1, a.low, a.high);
      priority_most = omega (arith, behind records laid 1, a.low, a.high);
      sleeps = omega (arith, behind records laid 3, c.high);
      run = omega (arith, word_behind records laid 4 d.value d.high refl refl refl refl, d.low);
      sleep = omega (arith, word_behind records laid 8 e.value e.high refl refl refl refl, e.high);
      period = omega (arith, word_behind records laid 16 g.value g.high refl refl refl refl, g.high);
    })

-- a use's values
use_whole : (records bytes : List ℕ) → Kinded 2 4 7 bytes → UseWhole (records ++ bytes) (length records)
unfolding value_bytes wide least most
use_whole records bytes k =
    let a = k.left in
    let b = a.left in
    let c = b.left in
    let d = c.left in
    let laid : List ℕ = 2 ∷ a.value % 256 ∷ b.value % 256 ∷ c.value % 256 ∷ word_bytes d.value in
    let is : bytes ≡ laid = cc in
    let word = word_behind records laid 4 d.value d.high refl refl refl refl in
    rw is (record {
      kind = kind_behind records laid;
      size = length-append records laid;
      resource = omega (arith, behind records laid 2, b.low, b.high);
      resource_most = omega (arith, behind records laid 2, b.low, b.high);
      times = omega (arith, behind records laid 3, c.low, c.high);
      length = omega (arith, word, d.low);
      length_most = omega (arith, word, d.high);
    })

-- the record of a line without fault, behind others
pub row_whole : (records s : List ℕ) (at : ℕ) → (row_at s at).cause ≡ 0 → 1 ≤ length (row_at s at).bytes
    → TaskWhole (records ++ (row_at s at).bytes) (length records) ⊎ UseWhole (records ++ (row_at s at).bytes) (length records)
row_whole records s at e some = ⊎_elim (λ q. inl (task_whole records _ q)) (λ q. inr (use_whole records _ q)) (row_values s at e some)
