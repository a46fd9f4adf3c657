-- The text of a table, put piece by piece.
use Prim.Native.Nat.{ℕ, zero, suc, ◌+◌, ◌*◌, ◌-◌, ◌≤◌}
use mathlib.Core.Path.{◌≡◌, refl, sym, subst, ap, ◌∙◌}
use mathlib.Core.List.{List, [], ◌∷◌, ◌++◌}
use native.Mathlib.Numerals.{add-one}
use native.Mathlib.Omega.{arith}
use borrow.Author.Tests.{le-ltb}
use lib.ListN.{length, take, replicate}
use Rattle.io.specs.Counts.{IsPrefixLen}
use Rattle.words.specs.Text.{decimal, joined, fitted}
use Rattle.words.specs.Writing.{Put}
use Rattle.words.specs.Sheet.{Sheet, onward}
use Rattle.words.proofs.Pages.{onward_on, onward_none, room_onward}
use Rattle.words.proofs.Puts.{put_counts}
use Rattle.words.proofs.Words.{joined_more}
use Rattle.notation.specs.Columns.{width, field_at}
use Rattle.notation.specs.Showing.{padded, cell_text, row_text, rows_text}

-- ---- a value in its column

-- the front of many equal bytes is fewer of them
take_replicate : (n m b : ℕ) → n ≤ m → take n (replicate m b) ≡ replicate n b
take_replicate zero m b l = refl
take_replicate (suc n) zero b l = absurd (omega arith)
take_replicate (suc n) (suc m) b l = ap (λ (x : List ℕ). b ∷ x) (take_replicate n m b (omega arith))

-- eight spaces
abbrev pub eight : List ℕ
eight = replicate 8 32

-- a space and n more, of eight
spaces_are : (n : ℕ) → n ≤ 7 → take (n + 1) eight ≡ 32 ∷ replicate n 32
spaces_are n l = ap (λ (k : ℕ). take k eight) (add-one n) ∙ take_replicate (suc n) 8 32 (omega arith)

-- spaces and then the digits are a padded value
pub padded_is : (c v n : ℕ) (digits : List ℕ) → digits ≡ decimal v → n ≡ width c - length digits → n ≤ 7 → take (n + 1) eight ++ digits ≡ padded c v
padded_is c v n digits e m few =
    ap (λ (x : List ℕ). x ++ digits) (spaces_are n few) ∙ ap (λ (k : ℕ). 32 ∷ (replicate k 32 ++ digits)) m
    ∙ ap (λ (d : List ℕ). 32 ∷ (replicate (width c - length d) 32 ++ d)) e

-- ---- lines

-- a text put where another ends puts both
pub put_more : (before between after : Sheet) (t u both : List ℕ) → between ≡ onward before t → after ≡ onward between u → t ++ u ≡ both → after ≡ onward before both
put_more before between after t u both p q e = q ∙ ap (λ (x : Sheet). onward x u) p ∙ onward_on before t u ∙ ap (onward before) e

-- what room is left
pub room_left : (before after : Sheet) (t : List ℕ) → after ≡ onward before t → length after.rest ≡ length before.rest - length t
room_left before after t e = ap (λ (x : Sheet). length x.rest) e ∙ room_onward before t

-- no text is put
pub put_nothing : (before : Sheet) (t : List ℕ) → t ≡ [] → before ≡ onward before t
put_nothing before t e = sym (ap (onward before) e ∙ onward_none before)

-- no cell yet
pub row_none : (s : List ℕ) (c i : ℕ) → row_text s c 0 i ≡ []
unfolding row_text joined
row_none s c i = refl

-- one cell more
pub row_more : (s : List ℕ) (c k i : ℕ) → row_text s c k i ++ cell_text (c + k) (field_at s i (c + k)) ≡ row_text s c (k + 1) i
unfolding row_text
row_more s c k i = sym (joined_more (λ (j : ℕ). cell_text j (field_at s i j)) k c)

-- no line yet
pub rows_none : (s : List ℕ) (c k from size : ℕ) → rows_text s c k from size 0 ≡ []
unfolding rows_text joined
rows_none s c k from size = refl

-- one line more
pub rows_more : (s : List ℕ) (c k from size n : ℕ) → rows_text s c k from size n ++ row_text s c k (from + size * n) ≡ rows_text s c k from size (n + 1)
unfolding rows_text
rows_more s c k from size n =
    let z : n ≡ 0 + n = omega arith in
    ap (λ (j : ℕ). rows_text s c k from size n ++ row_text s c k (from + size * j)) z
    ∙ sym (joined_more (λ (j : ℕ). row_text s c k (from + size * j)) n 0)

-- ---- the whole text

-- a text put at the front of a buffer that has room for the most that is ever put
pub fitted_put : (most : ℕ) (o t u after : List ℕ) (r : ℕ) → most ≤ length o → t ≡ u → Put o 0 t after r → Put o 0 (fitted most (length o) u) after r × IsPrefixLen r after
fitted_put most o t u after r l e p =
    (rw (le-ltb (length o) most l) (subst (λ (x : List ℕ). Put o 0 x after r) e p), put_counts o t after r p)
