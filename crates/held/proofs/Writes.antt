-- What the writer answers and leaves in the buffer, by what the n bytes at the front of the full one, which are the table's, are read as.
use Prim.Native.Nat.{ℕ, ◌≤◌, ◌<◌}
use mathlib.Core.Path.{◌≡◌, refl, sym, ap, ◌∙◌}
use mathlib.Core.Bool.{Bool, cond}
use mathlib.Core.List.{List, ◌++◌}
use lib.ListN.{length, take, drop}
use lib.Seq.{length-take-le, take-take}
use native.Mathlib.Omega.{arith}
use borrow.Author.Tests.{lt-ltb, le-ltb}
use Rattle.std.specs.Prelude.{Result, Ok, Err}
use Rattle.table.specs.declared.Shape.{Shape}
use Rattle.table.specs.declared.Refusal.{Refusal}
use Rattle.table.specs.declared.Why.TheVariants.{Room}
use Rattle.table.specs.Reading.{Reading, refusal, read_table}
use Rattle.held.specs.declared.Table.{Table}
use Rattle.held.specs.Replies.{count_of}
use Rattle.held.specs.Writing.{encode, decided, write_table, written}

module _ (t : Table) (out full : List ℕ) (n : ℕ) (fits : n ≤ length full) (same : take n full ≡ encode t) where
  -- w is answered, and this is left
  abbrev pub Answered : Result ℕ Refusal → List ℕ → Type 0
  Answered w last = (w ≡ write_table t (length out)) × (last ≡ written t out)

  -- what is decided of the bytes that are read is what the writer answers
  by_reading : (r : Reading) (w : Result ℕ Refusal) → read_table (take n full) ≡ r → decided r n (length out) ≡ w → write_table t (length out) ≡ w
  by_reading r w e f =
      let size : length (encode t) ≡ n = sym (ap length same) ∙ length-take-le n full fits in
      ap (λ (m : ℕ). decided (read_table (encode t)) m (length out)) size
      ∙ ap (λ (x : Reading). decided x n (length out)) (ap (λ (l : List ℕ). read_table l) (sym same) ∙ e) ∙ f

  -- and fixes what is left
  answered : (w : Result ℕ Refusal) → write_table t (length out) ≡ w → Answered w (take (count_of w) (encode t) ++ drop (count_of w) out)
  answered w e = (sym e, sym (ap (λ (a : Result ℕ Refusal). take (count_of a) (encode t) ++ drop (count_of a) out) e))

  -- refused as they are read
  pub refused : (f : Refusal) → read_table (take n full) ≡ Err f → Answered (Err f) out
  unfolding decided
  refused f e = answered (Err f) (by_reading (Err f) (Err f) e refl)

  module _ (h : Shape) (e : read_table (take n full) ≡ Ok h) where
    -- accepted, with too little room
    pub short : length out < n → Answered (refusal Room 0) out
    unfolding decided
    short l = answered (refusal Room 0) (by_reading (Ok h) (refusal Room 0) e (ap (λ (b : Bool). cond b (refusal Room 0) (Ok n)) (lt-ltb (length out) n l)))

    -- or with enough
    pub done : n ≤ length out → (last : List ℕ) → last ≡ take n full ++ drop n out → Answered (Ok n) last
    unfolding decided
    done l last p =
        let a = answered (Ok n) (by_reading (Ok h) (Ok n) e (ap (λ (b : Bool). cond b (refusal Room 0) (Ok n)) (le-ltb (length out) n l))) in
        let whole : take n full ≡ take n (encode t) = sym (take-take n n full (omega arith)) ∙ ap (take n) same in
        (a.0, p ∙ ap (λ (x : List ℕ). x ++ drop n out) whole ∙ a.1)
