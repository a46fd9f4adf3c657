-- Laws of what a number stands for, a column or a cause; and the line of a fault of any numbers.
use Prim.Native.Nat.{ℕ, zero, suc, ◌+◌, ◌-◌, ◌≤◌, ◌<◌}
use mathlib.Core.Path.{◌≡◌, refl, sym, ap, ap₂, subst, ◌∙◌}
use mathlib.Core.Bool.{cond}
use mathlib.Core.List.{List, [], ◌++◌, map}
use native.Mathlib.Nat.{zero-add}
use native.Mathlib.Decide.{dec_le, dec_lt}
use native.Mathlib.Omega.{arith}
use borrow.Author.Tests.{ne_eqb, lt-leb}
use lib.Dec.{eqb, leb}
use lib.ListN.{get_or-map}
use Rattle.std.proofs.Common.{Some, None}
use Rattle.std.proofs.lemmas.List.{get_or_past}
use Rattle.std.proofs.lemmas.List.FromFn.{get_or-range_with_len}
use Rattle.table.specs.Rules.{place_from}
use Rattle.words.specs.Text.{text, labelled, newline}
use Rattle.words.specs.Finding.{word_of, found_text}
use Rattle.notation.specs.declared.causes.Cause.TheVariants.{NoRoom}
use Rattle.notation.specs.Causes.{cause_number, causes, cause_of}
use Rattle.notation.specs.Columns.{column_or_none, columns, column_of, name, least, most}
use Rattle.notation.specs.Numbered.{Fault, fault_of, named}
use Rattle.notation.specs.Faults.{expected, between, limit, opening, middle, reason_text, whole_text, fault_line}

-- what holds at a number and at the next holds at each that is one of them
pub of_two : (p : ℕ → Type 0) (a c : ℕ) → p a → p (a + 1) → a ≤ c → c < a + 2 → p c
of_two p a c here next l g = go (dec_le (a + 1) c)
  where
    go : Dec (a + 1 ≤ c) → p c
    go (yes h) =
        let e : a + 1 ≡ c = omega arith in
        subst p e next
    go (no h) =
        let e : a ≡ c = omega arith in
        subst p e here

-- a number differs from the k numbers from a on
abbrev pub Differs : ℕ → ℕ → ℕ → Type 0
Differs a zero c = Unit {0}
Differs a (suc k) c = Differs a k c × (c ≡ a + k → ⊥)

-- then it is not among them
pub not_among : (a k c : ℕ) → Differs a k c → a ≤ c → c < a + k → ⊥
not_among a zero c d l g = omega arith
not_among a (suc k) c d l g = not_among a k c d.0 l (omega (arith, d.1))

-- what is none of the columns has no name
pub name_else : (c : ℕ) → (0 ≤ c → c < 11 → ⊥) → name c ≡ []
unfolding name
name_else c h =
    rw (
      ne_eqb c 0 (λ e. h (omega arith) (omega arith)),
      ne_eqb c 1 (λ e. h (omega arith) (omega arith)),
      ne_eqb c 2 (λ e. h (omega arith) (omega arith)),
      ne_eqb c 3 (λ e. h (omega arith) (omega arith)),
      ne_eqb c 4 (λ e. h (omega arith) (omega arith)),
      ne_eqb c 5 (λ e. h (omega arith) (omega arith)),
      ne_eqb c 6 (λ e. h (omega arith) (omega arith)),
      ne_eqb c 7 (λ e. h (omega arith) (omega arith)),
      ne_eqb c 8 (λ e. h (omega arith) (omega arith)),
      ne_eqb c 9 (λ e. h (omega arith) (omega arith)),
      ne_eqb c 10 (λ e. h (omega arith) (omega arith)),
    )

-- what is no cause from 7 to 10 or from 14 to 16 is about a task
pub opening_else : (c : ℕ) → ((Differs 7 4 c × (c ≡ 14 → ⊥)) × (c ≡ 15 → ⊥)) × (c ≡ 16 → ⊥) → opening c ≡ text "task "
unfolding opening
opening_else c r =
    let first = r.0.0.0 in
    rw (
      ne_eqb c 7 first.0.0.0.1,
      ne_eqb c 8 first.0.0.1,
      ne_eqb c 9 first.0.1,
      ne_eqb c 10 first.1,
      ne_eqb c 14 r.0.0.1,
      ne_eqb c 15 r.0.1,
      ne_eqb c 16 r.1,
    )

-- what is no cause from 7 to 15 speaks of a sum above the run
pub middle_else : (c : ℕ) → (7 ≤ c → c < 16 → ⊥) → middle c ≡ text " add up to more than its run "
unfolding middle
middle_else c h =
    rw (
      ne_eqb c 7 (λ e. h (omega arith) (omega arith)),
      ne_eqb c 8 (λ e. h (omega arith) (omega arith)),
      ne_eqb c 9 (λ e. h (omega arith) (omega arith)),
      ne_eqb c 10 (λ e. h (omega arith) (omega arith)),
      ne_eqb c 11 (λ e. h (omega arith) (omega arith)),
      ne_eqb c 12 (λ e. h (omega arith) (omega arith)),
      ne_eqb c 13 (λ e. h (omega arith) (omega arith)),
      ne_eqb c 14 (λ e. h (omega arith) (omega arith)),
      ne_eqb c 15 (λ e. h (omega arith) (omega arith)),
    )

-- ---- a place that is found by a priority

-- the same place, counted from none on
pub user_of_lem : (n : ℕ) (s : List ℕ) (p q r : ℕ) → r ≡ place_from (n - 0) s 0 p → p ≡ q → r ≡ place_from n s 0 q
user_of_lem n s p q r e f =
    let z : n - 0 ≡ n = omega arith in
    e ∙ ap₂ (λ (k m : ℕ). place_from k s 0 m) z f

-- ---- the line of any numbers

-- a cause that has a name is told by its own number
cause_there : (n : ℕ) → n < 20 → cause_number (cause_of n) ≡ n
cause_there n l = sym (get_or-map cause_number causes n NoRoom) ∙ get_or-range_with_len 0 20 n 19 l ∙ zero-add n

-- and one past them as the last
cause_past : (n : ℕ) → 20 ≤ n → cause_of n ≡ NoRoom
cause_past n l = get_or_past causes n NoRoom l

-- what is so of the last cause and of each past it is told of any number as of the cause that is meant
cause_told : (P : ℕ → List ℕ) → ((n : ℕ) → 20 ≤ n → P 19 ≡ P n) → (n : ℕ) → P (cause_number (cause_of n)) ≡ P n
cause_told P past n = go (dec_lt n 20)
  where
    go : Dec (n < 20) → P (cause_number (cause_of n)) ≡ P n
    go (yes l) = ap P (cause_there n l)
    go (no l) = rw (cause_past n (omega arith)) (past n (omega arith))

-- a column is told by its own number
column_there : (c : ℕ) → c < 11 → column_or_none (column_of c) ≡ c
column_there c l = sym (get_or-map column_or_none (map Some columns) c None) ∙ get_or-range_with_len 0 11 c 11 l ∙ zero-add c

-- and a number past them as none
column_past : (c : ℕ) → 11 ≤ c → column_of c ≡ None
column_past c l = get_or_past (map Some columns) c None l

column_told : (P : ℕ → List ℕ) → ((c : ℕ) → 11 ≤ c → P 11 ≡ P c) → (c : ℕ) → P (column_or_none (column_of c)) ≡ P c
column_told P past c = go (dec_lt c 11)
  where
    go : Dec (c < 11) → P (column_or_none (column_of c)) ≡ P c
    go (yes l) = ap P (column_there c l)
    go (no l) = rw (column_past c (omega arith)) (past c (omega arith))

-- past the causes a fault is told as one of the last
past_cause : (s : List ℕ) (f : Fault) (n : ℕ) → 20 ≤ n
    → fault_line s (record { line = f.line; cause = 19; column = f.column; at = f.at; value = f.value; other = f.other })
    ≡ fault_line s (record { line = f.line; cause = n; column = f.column; at = f.at; value = f.value; other = f.other })
unfolding whole_text
past_cause s f n l = rw (lt-leb n 6 (omega arith), lt-leb n 16 (omega arith), ne_eqb n 17 (λ e. omega arith), ne_eqb n 18 (λ e. omega arith)) refl

-- no column has a limit past the columns
limit_past : (n c : ℕ) → 11 ≤ c → limit n 11 ≡ limit n c
unfolding limit least most
limit_past n c l =
    ap₂ (λ (a b : ℕ). cond (eqb n 4) (labelled (text " is below ") a) (cond (eqb n 5) (labelled (text " is above ") b) []))
    (rw (ne_eqb c 1 (λ e. omega arith), ne_eqb c 2 (λ e. omega arith), ne_eqb c 4 (λ e. omega arith)) refl)
    (rw (
      ne_eqb c 1 (λ e. omega arith),
      ne_eqb c 2 (λ e. omega arith),
      ne_eqb c 8 (λ e. omega arith),
      ne_eqb c 0 (λ e. omega arith),
      ne_eqb c 7 (λ e. omega arith),
      ne_eqb c 9 (λ e. omega arith),
    ) refl)

-- past the columns it is told as one of none
past_column : (s : List ℕ) (f : Fault) (c : ℕ) → 11 ≤ c
    → fault_line s (record { line = f.line; cause = f.cause; column = 11; at = f.at; value = f.value; other = f.other })
    ≡ fault_line s (record { line = f.line; cause = f.cause; column = c; at = f.at; value = f.value; other = f.other })
past_column s f c l =
    let named : name 11 ≡ name c = name_else 11 (λ a b. omega arith) ∙ sym (name_else c (λ a b. omega arith)) in
    ap₂ (λ (a b : List ℕ). labelled (text "line ") f.line
    ++ (text ": " ++ (cond (leb f.cause 6) (expected f.cause ++ (a ++ (between f.cause ++ (found_text (word_of s f.at) ++ b))))
    (cond (leb f.cause 16) (reason_text f) (whole_text f.cause)) ++ newline))) named (limit_past f.cause c l)

-- the line of a fault is that of its numbers, whatever they are: `Cause::of` and `Column::of` lose none of it
pub named_told : (s : List ℕ) (f : Fault) → fault_line s (fault_of (named f)) ≡ fault_line s f
unfolding named
named_told s f =
    cause_told (λ (n : ℕ). fault_line s (record { line = f.line; cause = n; column = column_or_none (column_of f.column); at = f.at; value = f.value; other = f.other }))
    (past_cause s (record { line = f.line; cause = f.cause; column = column_or_none (column_of f.column); at = f.at; value = f.value; other = f.other })) f.cause
    ∙ column_told (λ (c : ℕ). fault_line s (record { line = f.line; cause = f.cause; column = c; at = f.at; value = f.value; other = f.other })) (past_column s f) f.column
