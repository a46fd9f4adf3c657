-- Every fault of a record that a text is answered with is true: of the record of its line, behind those of the lines before.
use Prim.Native.Nat.{ℕ, zero, suc, ◌+◌, ◌≤◌}
use mathlib.Core.Path.{◌≡◌, refl, subst}
use mathlib.Core.Logic.{inl, inr}
use mathlib.Core.Bool.{Bool, true, false, cond}
use mathlib.Core.List.{List, [], ◌∷◌, ◌++◌}
use native.Mathlib.Omega.{arith}
use borrow.Author.Tests.{eqb-true, eqb-false}
use lib.Dec.{ltb, leb, eqb}
use lib.ListN.{length}
use Rattle.searches.proofs.Testing.{impossible}
use Rattle.table.specs.Reading.{Reading}
use Rattle.std.specs.Prelude.{Ok, Err}
use Rattle.table.specs.Reading.{read_table}
use Rattle.words.specs.Finding.{word_start, word_of, run_end, same, is_number, value_of}
use Rattle.notation.specs.declared.stepping.Position.{Position}
use Rattle.notation.specs.Numbered.{Fault, Faulty}
use Rattle.notation.specs.Columns.{name, least, most}
use Rattle.notation.specs.Rows.{Cell, Row, number_at, cell_at, cells_from, row_at}
use Rattle.notation.specs.Reasons.{Reason, reason}
use Rattle.notation.specs.Packing.{longest, Outcome, faulty, whole, Step, on, over, past, judged, line_step, ended, end_of, step_at, onward, pack_from, start, pack_text, pack_into}
use Rattle.notation.specs.Truths.{Told, SoFar, Before, none, line, TrueFault}
use Rattle.notation.proofs.Choosing.{chosen}
use Rattle.notation.proofs.Truths.{told}

-- ---- a line's own faults have the causes 1 to 6

-- a cell's cause
cell_cause : (s : List ℕ) (at c : ℕ) → (cell_at s at c).cause ≤ 5
unfolding cell_at number_at
cell_cause s at c =
    let b = word_start s at in
    let w = word_of s (word_start s (run_end s b 1)) in
    chosen (λ (x : Cell). x.cause ≤ 5) (same (word_of s b) (name c))
    (chosen (λ (x : Cell). x.cause ≤ 5) (is_number w)
    (chosen (λ (x : Cell). x.cause ≤ 5) (ltb (value_of w) (least c)) (omega arith)
    (chosen (λ (x : Cell). x.cause ≤ 5) (ltb (most c) (value_of w)) (omega arith) (omega arith))) (omega arith)) (omega arith)

-- the cause of a row of cells
cells_cause : (k : ℕ) (s : List ℕ) (at c : ℕ) → (cells_from k s at c).cause ≤ 6
unfolding cells_from
cells_cause zero s at c = chosen (λ (n : ℕ). n ≤ 6) (eqb (length (word_of s (word_start s at))) 0) (omega arith) (omega arith)
cells_cause (suc k) s at c =
    chosen (λ (x : Row). x.cause ≤ 6) (eqb (cell_at s at c).cause 0) (cells_cause k s (cell_at s at c).end (c + 1)) (omega (arith, cell_cause s at c))

-- the cause of a line
row_cause : (s : List ℕ) (at : ℕ) → (row_at s at).cause ≤ 6
unfolding row_at
row_cause s at =
    let b = word_start s at in
    let w = word_of s b in
    chosen (λ (x : Row). x.cause ≤ 6) (eqb (length w) 0) (omega arith)
    (chosen (λ (x : Row). x.cause ≤ 6) (same w (name 0)) (cells_cause 7 s b 0)
    (chosen (λ (x : Row). x.cause ≤ 6) (same w (name 7)) (cells_cause 4 s b 7) (omega arith)))

-- ---- a step

-- the fault of an answer, if it has one of a record, is true of the record of the line at w
abbrev Fair : List ℕ → Position → List ℕ → Outcome → Type 0
Fair s w records o = (f : Fault) → o.packing ≡ Faulty f → 7 ≤ f.cause → f.cause ≤ 16
    → (f.line ≡ w.line) × Told (records ++ (row_at s w.at).bytes) w.count w.tasks (reason f.cause f.value f.other)

-- a step goes on to records that stand, or ends in a fair answer
abbrev Fate : List ℕ → Position → List ℕ → Step → Type 0
Fate s w records (on next more) = SoFar next more
Fate s w records (over o) = Fair s w records o

module _ (s : List ℕ) (w : Position) (records : List ℕ) (far : SoFar w records) where
  -- a fault with another cause
  other_cause : (f : Fault) → (7 ≤ f.cause → f.cause ≤ 16 → ⊥) → Fair s w records (faulty f)
  other_cause f never g e low high = let z : f.cause ≡ g.cause = cc in absurd (never (omega arith) (omega arith))

  -- a fault with a reason that is told of the line's record
  fair_reason : (why : Reason) → Told (records ++ (row_at s w.at).bytes) w.count w.tasks why
      → Fair s w records (faulty (record { line = w.line; cause = why.cause; column = 11; at = 0; value = why.value; other = why.other }))
  fair_reason why t f e low high =
      let z : record { line = w.line; cause = why.cause; column = 11; at = 0; value = why.value; other = why.other } ≡ f = cc in
      subst (λ (g : Fault). (g.line ≡ w.line) × Told (records ++ (row_at s w.at).bytes) w.count w.tasks (reason g.cause g.value g.other))
      z (refl, t)

  -- the end of the text
  end_fate : Fair s w records (end_of w records)
  unfolding end_of
  end_fate = go (read_table (records ++ 3 ∷ []))
    where
      go : (r : Reading) → Fair s w records (ended r w (records ++ 3 ∷ []))
      go (Ok h) = λ f e low high. absurd (impossible cc)
      go (Err r) = other_cause _ (λ l h. omega arith)

  -- a line
  line_fate : Fate s w records (line_step s w records)
  unfolding line_step
  line_fate =
      let row = row_at s w.at in
      go (eqb row.cause 0) (eqb (length row.bytes) 0) (read_table ((records ++ row.bytes) ++ 3 ∷ [])) refl refl refl
    where
      go : (a b : Bool) (r : Reading) → eqb (row_at s w.at).cause 0 ≡ a → eqb (length (row_at s w.at).bytes) 0 ≡ b
          → read_table ((records ++ (row_at s w.at).bytes) ++ 3 ∷ []) ≡ r
          → Fate s w records
          (cond a (cond b (on (past s w (row_at s w.at).at w.count w.tasks) records)
          (judged r s w (row_at s w.at).at (records ++ (row_at s w.at).bytes)))
          (over (faulty (record { line = w.line; cause = (row_at s w.at).cause; column = (row_at s w.at).column; at = (row_at s w.at).at; value = 0; other = 0 }))))
      go true true r p q e = record { count = far.count; stand = far.stand }
      go true false (Ok h) p q e = record { count = refl; stand = inr (record { shape = h; accepted = e; tasks = refl }) }
      go true false (Err r) p q e =
          let some = eqb-false (length (row_at s w.at).bytes) 0 q in
          fair_reason _ (told s w records far (eqb-true (row_at s w.at).cause 0 p) (omega arith) r e)
      go false b r p q e = other_cause _ (λ l h. omega (arith, row_cause s w.at))

  -- a step
  step_fate : Fate s w records (step_at s w records)
  unfolding step_at
  step_fate = go (leb (length s) w.at)
    where
      go : (b : Bool) → Fate s w records (cond b (over (end_of w records)) (line_step s w records))
      go true = end_fate
      go false = line_fate

-- ---- the whole text

module _ (s : List ℕ) where
  -- the lines before a position are packed as records that stand
  before_far : {w : Position} {records : List ℕ} → Before s w records → SoFar w records
  before_far none = record { count = refl; stand = inl (refl, refl) }
  before_far (line {w} {next} {records} {more} b e) = subst (Fate s w records) e (step_fate s w records (before_far b))

  -- from a position on
  from_true : (k : ℕ) (w : Position) (records : List ℕ) → Before s w records → (f : Fault) → (pack_from k s w records).packing ≡ Faulty f
      → 7 ≤ f.cause → f.cause ≤ 16 → TrueFault s f
  unfolding pack_from
  from_true zero w records b f e low high = let z : 17 ≡ f.cause = cc in absurd (omega arith)
  from_true (suc k) w records b f e low high = go (from_true k) (step_at s w records) refl (step_fate s w records (before_far b)) e
    where
      go : ((v : Position) (more : List ℕ) → Before s v more → (g : Fault) → (pack_from k s v more).packing ≡ Faulty g → 7 ≤ g.cause → g.cause ≤ 16 → TrueFault s g)
          → (t : Step) → step_at s w records ≡ t → Fate s w records t → (onward t (pack_from k s)).packing ≡ Faulty f → TrueFault s f
      go more (on v x) q fate e = more v x (line b q) f e low high
      go more (over o) q fate e =
          let r = fate f e low high in
          record { at = w; records = records; before = b; line = r.0; told = r.1 }

  -- a fault of a record that a text is answered with is true
  pub text_true : (f : Fault) → (pack_text s).packing ≡ Faulty f → 7 ≤ f.cause → f.cause ≤ 16 → TrueFault s f
  unfolding pack_text
  text_true f e low high = go (ltb longest (length s)) e
    where
      go : (b : Bool) → (cond b (whole 1 18) (pack_from (length s + 1) s start [])).packing ≡ Faulty f → TrueFault s f
      go true e = let z : 18 ≡ f.cause = cc in absurd (omega arith)
      go false e = from_true (length s + 1) start [] none f e low high

  -- and so it is with any room for the bytes
  pub fault_true : (room : ℕ) (f : Fault) → (pack_into room s).packing ≡ Faulty f → 7 ≤ f.cause → f.cause ≤ 16 → TrueFault s f
  fault_true room f e low high = go (ltb room (length (pack_text s).bytes)) e
    where
      go : (b : Bool) → (cond b (whole 1 19) (pack_text s)).packing ≡ Faulty f → TrueFault s f
      go true e = let z : 19 ≡ f.cause = cc in absurd (omega arith)
      go false e = text_true f e low high
