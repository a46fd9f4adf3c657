-- A cell that show wrote is read as the value that it was written of.
use Prim.Native.Nat.{ℕ, zero, suc, ◌+◌, ◌-◌, ◌≤◌}
use mathlib.Core.Path.{◌≡◌, refl, sym, ap, subst, ◌∙◌}
use mathlib.Core.Bool.{Bool, true, false, cond, not, ◌||◌}
use mathlib.Core.List.{List, [], ◌∷◌, ◌++◌, append_assoc}
use native.Mathlib.Omega.{arith}
use borrow.Author.Tests.{le-ltb}
use lib.Dec.{eqb}
use lib.ListN.{length, take, drop, replicate}
use lib.Seq.{drop-drop, drop-append_seam, take-append_seam}
use Rattle.words.specs.Text.{text, decimal, newline}
use Rattle.words.specs.Finding.{blank, in_class, lead, run_end, word_start, word_of, same}
use Rattle.words.proofs.Words.{lead_all, same_refl, value_decimal, number_decimal, digits_word, digits_some}
use Rattle.notation.specs.Columns.{name, least, most, width}
use Rattle.notation.specs.Rows.{Cell, no_cell, value_cell, number_at, cell_at}
use Rattle.notation.specs.Showing.{spacing, cell_text}

-- ---- words in a text

-- a word starts with no blank
pub word_opens : (u rest : List ℕ) → lead (in_class 1) u ≡ length u → 1 ≤ length u → lead (in_class 0) (u ++ rest) ≡ 0
unfolding lead
word_opens [] rest all some = absurd (omega arith)
word_opens (b ∷ u) rest all some = go (blank b) all
  where
    go : (x : Bool) → cond (not (x || (eqb b 10 || eqb b 35))) (suc (lead (in_class 1) u)) 0 ≡ suc (length u) → cond x (suc (lead (in_class 0) (u ++ rest))) 0 ≡ 0
    go true e = absurd (omega arith)
    go false e = refl

-- spaces are blanks
spaces : (n : ℕ) → lead (in_class 0) (replicate n 32) ≡ length {A = ℕ} (replicate n 32)
unfolding lead
spaces zero = refl
spaces (suc n) = ap suc (spaces n)

module _ (t : List ℕ) where
  -- past the front of what stands from a place on
  pub past_front : (at : ℕ) (u rest : List ℕ) → drop at t ≡ u ++ rest → drop (at + length u) t ≡ rest
  past_front at u rest e = sym (drop-drop (length u) at t) ∙ ap (drop (length u)) e ∙ drop-append_seam u rest

  -- a run of a class ends where the rest starts
  pub run_ends : (at class : ℕ) (u rest : List ℕ) → drop at t ≡ u ++ rest → lead (in_class class) u ≡ length u → lead (in_class class) rest ≡ 0
      → run_end t at class ≡ at + length u
  run_ends at class u rest e all none =
      ap (λ (x : List ℕ). at + lead (in_class class) x) e ∙ omega (arith, lead_all (in_class class) u rest all)

  -- what follows a run
  pub run_rest : (at class : ℕ) (u rest : List ℕ) → drop at t ≡ u ++ rest → lead (in_class class) u ≡ length u → lead (in_class class) rest ≡ 0
      → drop (run_end t at class) t ≡ rest
  run_rest at class u rest e all none = ap (λ (n : ℕ). drop n t) (run_ends at class u rest e all none) ∙ past_front at u rest e

  -- the word at a place is the run of a word's bytes
  pub word_is : (at : ℕ) (u rest : List ℕ) → drop at t ≡ u ++ rest → lead (in_class 1) u ≡ length u → lead (in_class 1) rest ≡ 0 → word_of t at ≡ u
  word_is at u rest e all none =
      let n : lead (in_class 1) (u ++ rest) ≡ length u = omega (arith, lead_all (in_class 1) u rest all) in
      ap (λ (x : List ℕ). take (lead (in_class 1) x) x) e ∙ ap (λ (k : ℕ). take k (u ++ rest)) n ∙ take-append_seam u rest

-- ---- a number

-- what stands after a value is no part of a word
spacing_stops : (c : ℕ) (rest : List ℕ) → lead (in_class 1) (spacing c ++ rest) ≡ 0
unfolding lead
spacing_stops c rest = go (eqb c 6 || eqb c 10)
  where
    go : (x : Bool) → lead (in_class 1) (cond x newline (text "  ") ++ rest) ≡ 0
    go true = refl
    go false = refl

-- a column can be read again with a value: its name is a word, the value is in its range, and the range is one that is read
pub record Fits (c v : ℕ) : Type 0 where
  pub word : lead (in_class 1) (name c) ≡ length (name c)
  pub some : 1 ≤ length (name c)
  pub low : least c ≤ v
  pub high : v ≤ most c
  pub read : most c ≤ 1000000

-- a cell is read without fault as a value, and what follows it in the text is the rest
pub record CellAgain (t : List ℕ) (cell : Cell) (v : ℕ) (rest : List ℕ) : Type 0 where
  pub cause : cell.cause ≡ 0
  pub value : cell.value ≡ v
  pub left : drop cell.end t ≡ rest

-- a written number is read as itself
numbered_decimal : (c b e v : ℕ) → Fits c v → value_cell c b e (decimal v) ≡ record { cause = 0; at = b; end = e; value = v }
numbered_decimal c b e v f =
    rw (number_decimal v, value_decimal v (omega (arith, f.high, f.read)), le-ltb v (least c) f.low, le-ltb (most c) v f.high)

module _ (t : List ℕ) where
  -- the value of a column after blanks, and what stands after it no part of a word
  number_again : (at c v : ℕ) (gap rest : List ℕ) → Fits c v → lead (in_class 0) gap ≡ length gap → lead (in_class 1) rest ≡ 0
      → drop at t ≡ gap ++ (decimal v ++ rest) → CellAgain t (number_at t at c) v rest
  unfolding number_at
  number_again at c v gap rest f blanks none e =
      let b = word_start t at in
      let there : drop b t ≡ decimal v ++ rest = run_rest t at 0 gap (decimal v ++ rest) e blanks (word_opens (decimal v) rest (digits_word v) (digits_some v)) in
      let is : number_at t at c ≡ record { cause = 0; at = b; end = run_end t b 1; value = v } =
      ap (value_cell c b (run_end t b 1)) (word_is t b (decimal v) rest there (digits_word v) none) ∙ numbered_decimal c b (run_end t b 1) v f in
      record {
        cause = ap (λ (x : Cell). x.cause) is;
        value = ap (λ (x : Cell). x.value) is;
        left = ap (λ (x : Cell). drop x.end t) is ∙ run_rest t b 1 (decimal v) rest there (digits_word v) none;
      }

  -- a cell after blanks
  pub cell_again : (at c v : ℕ) (gap rest : List ℕ) → Fits c v → lead (in_class 0) gap ≡ length gap → drop at t ≡ gap ++ (cell_text c v ++ rest)
      → CellAgain t (cell_at t at c) v (spacing c ++ rest)
  unfolding cell_at cell_text lead
  cell_again at c v gap rest f blanks e =
      let b = word_start t at in
      let wide : List ℕ = replicate (suc (width c - length (decimal v))) 32 in
      let value : List ℕ = decimal v ++ (spacing c ++ rest) in
      let apart : cell_text c v ++ rest ≡ name c ++ (wide ++ value) = simp append_assoc in
      let there : drop b t ≡ name c ++ (wide ++ value) =
      run_rest t at 0 gap (name c ++ (wide ++ value)) (e ∙ ap (λ (x : List ℕ). gap ++ x) apart) blanks
      (word_opens (name c) (wide ++ value) f.word f.some) in
      let is : cell_at t at c ≡ number_at t (run_end t b 1) c =
      ap (λ (w : List ℕ). cond (same w (name c)) (number_at t (run_end t b 1) c) (no_cell 2 b)) (word_is t b (name c) (wide ++ value) there f.word refl)
      ∙ ap (λ (x : Bool). cond x (number_at t (run_end t b 1) c) (no_cell 2 b)) (same_refl (name c)) in
      subst (λ (x : Cell). CellAgain t x v (spacing c ++ rest)) (sym is)
      (number_again (run_end t b 1) c v wide (spacing c ++ rest) f (spaces (suc (width c - length (decimal v)))) (spacing_stops c rest)
      (run_rest t b 1 (name c) (wide ++ value) there f.word refl))
