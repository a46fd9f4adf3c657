-- One line of a text without fault: packing goes on after it.
use Prim.Native.Nat.{ℕ, zero, suc, ◌+◌, ◌≤◌, ◌<◌}
use mathlib.Core.Path.{◌≡◌, sym, ap, ◌∙◌}
use mathlib.Core.Bool.{Bool, cond}
use mathlib.Core.List.{List, [], ◌∷◌, ◌++◌}
use native.Mathlib.Nat.{add-zero}
use native.Mathlib.Omega.{arith}
use lib.ListN.{length, drop, length-append, length-drop}
use lib.Seq.{drop-drop}
use borrow.Author.Tests.{le-leb, lt-leb, ne_eqb}
use Rattle.table.specs.declared.Shape.{Shape}
use Rattle.table.specs.Reading.{Reading}
use Rattle.std.specs.Prelude.{Ok}
use Rattle.table.specs.Reading.{read_table}
use Rattle.words.specs.Finding.{in_class, lead, word_start, next_line}
use Rattle.notation.specs.declared.stepping.Position.{Position}
use Rattle.notation.specs.Rows.{Row, no_row, row_at}
use Rattle.notation.specs.Packing.{packed, Step, on, over, past, line_step, ended, end_of, step_at, onward, pack_from}
use Rattle.notation.proofs.Again.{RowAgain}

-- ---- a line

module _ (t l : List ℕ) (at : ℕ) (d : drop at t ≡ l) (blanks : lead (in_class 0) l ≡ 0) (words : lead (in_class 1) l ≡ 0) where
  -- a line without words has a row without bytes
  row_blank : row_at t at ≡ no_row 0 11 at
  unfolding row_at
  row_blank =
      let here : word_start t at ≡ at = ap (λ (x : List ℕ). at + lead (in_class 0) x) d ∙ ap (λ (n : ℕ). at + n) blanks ∙ add-zero at in
      let none : lead (in_class 1) (drop at t) ≡ 0 = ap (lead (in_class 1)) d ∙ words in
      rw (here, none)

  -- and what follows is the next line
  blank_again : RowAgain t at [] (drop (lead (in_class 2) l + 1) l)
  blank_again =
      let n = lead (in_class 2) (drop at t) in
      let regroup : at + n + 1 ≡ at + (n + 1) = omega arith in
      record {
        cause = ap (λ (r : Row). r.cause) row_blank;
        same = ap (λ (r : Row). r.bytes) row_blank;
        next = ap (λ (r : Row). drop (next_line t r.at) t) row_blank ∙ ap (λ (x : ℕ). drop x t) regroup ∙ sym (drop-drop (n + 1) at t)
            ∙ ap (λ (x : List ℕ). drop (lead (in_class 2) x + 1) x) d;
      }

-- packing goes on after such a line with the same records
line_blank : (t : List ℕ) (w : Position) (records : List ℕ) → (row_at t w.at).cause ≡ 0 → (row_at t w.at).bytes ≡ []
    → line_step t w records ≡ on (past t w (row_at t w.at).at w.count w.tasks) records
unfolding line_step
line_blank t w records c b = rw (c, b)

-- and after a line with a record with one more, where they are accepted with an end
line_row : (t : List ℕ) (w : Position) (records bytes more : List ℕ) (h : Shape) → (row_at t w.at).cause ≡ 0 → (row_at t w.at).bytes ≡ bytes
    → 1 ≤ length bytes → records ++ bytes ≡ more → read_table (more ++ 3 ∷ []) ≡ Ok h
    → line_step t w records ≡ on (past t w (row_at t w.at).at (length more) h.tasks) more
unfolding line_step
line_row t w records bytes more h c b some same e = rw (c, b, same, ne_eqb (length bytes) 0 (λ z. omega arith), e)

-- ---- from a line to the end

-- from wherever the rest of a text starts, after these records, the text is packed as s
abbrev pub Ends : List ℕ → List ℕ → List ℕ → List ℕ → Type 0
Ends t s records rest = (fuel : ℕ) (w : Position) → drop w.at t ≡ rest → length rest < fuel → pack_from fuel t w records ≡ packed s

module _ (t s : List ℕ) where
  -- the end of the text
  pub ends_last : (records : List ℕ) (h : Shape) → records ++ 3 ∷ [] ≡ s → read_table s ≡ Ok h → Ends t s records []
  unfolding pack_from step_at end_of
  ends_last records h same e zero w d l = absurd (omega arith)
  ends_last records h same e (suc k) w d l =
      let last : length t ≤ w.at = omega (arith, length-drop w.at t, ap length d) in
      ap (λ (b : Bool). onward (cond b (over (end_of w records)) (line_step t w records)) (pack_from k t)) (le-leb (length t) w.at last)
      ∙ ap (λ (x : List ℕ). ended (read_table x) w x) same
      ∙ ap (λ (r : Reading). ended r w s) e

  -- a line that leads on
  ends_step : (records more text rest : List ℕ)
      → ((w : Position) → drop w.at t ≡ text → (v : Position) × (line_step t w records ≡ on v more) × (drop v.at t ≡ rest))
      → length rest < length text → Ends t s more rest → Ends t s records text
  unfolding pack_from step_at
  ends_step records more text rest step shorter f zero w d l = absurd (omega arith)
  ends_step records more text rest step shorter f (suc k) w d l =
      let inside : w.at < length t = omega (arith, length-drop w.at t, ap length d) in
      let r = step w d in
      ap (λ (b : Bool). onward (cond b (over (end_of w records)) (line_step t w records)) (pack_from k t)) (lt-leb (length t) w.at inside)
      ∙ ap (λ (x : Step). onward x (pack_from k t)) r.1
      ∙ f k r.0 r.2 (omega arith)

  -- a line with a record, after which the records so far are accepted
  pub ends_row : (records bytes more row rest : List ℕ) (h : Shape)
      → ((at : ℕ) → drop at t ≡ row ++ rest → RowAgain t at bytes rest) → 1 ≤ length row → 1 ≤ length bytes
      → records ++ bytes ≡ more → read_table (more ++ 3 ∷ []) ≡ Ok h → Ends t s more rest → Ends t s records (row ++ rest)
  ends_row records bytes more row rest h again some full same e =
      ends_step records more (row ++ rest) rest
      (λ w d. let g = again w.at d in (past t w (row_at t w.at).at (length more) h.tasks, line_row t w records bytes more h g.cause g.same full same e, g.next))
      (omega (arith, length-append row rest))

  -- a line without words
  pub ends_blank : (records l : List ℕ) → lead (in_class 0) l ≡ 0 → lead (in_class 1) l ≡ 0 → 1 ≤ length l
      → Ends t s records (drop (lead (in_class 2) l + 1) l) → Ends t s records l
  ends_blank records l blanks words some =
      ends_step records records l (drop (lead (in_class 2) l + 1) l)
      (λ w d. let g = blank_again t l w.at d blanks words in (past t w (row_at t w.at).at w.count w.tasks, line_blank t w records g.cause g.same, g.next))
      (omega (arith, length-drop (lead (in_class 2) l + 1) l))
