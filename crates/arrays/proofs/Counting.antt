-- Sixteen counts that begin afresh.
use Rattle.std.proofs.Common.{◌≡◌, ℕ, zero, suc, ◌+◌, ◌*◌, ◌<◌, ◌≤◌, Bool, true, false, ltb, List, length, get_or, replicate, refl, ap, ◌∙◌, arith, rules, ltb-true}
use mathlib.Core.Path.{fun_ext}
use native.Mathlib.Decide.{dec_lt}
use borrow.Rule.Slice.PartMut.{put_mid}
use Rattle.std.proofs.lemmas.List.{places, get_or-replicate, length-replicate}
use Rattle.searches.specs.Searches.{only}
use Rattle.arrays.specs.View.{count_of}
use Rattle.arrays.specs.Stores.{Cleared}

-- n numbers of a list, from the place s on, with others in their stead
module _ (a ys : List ℕ) (s n : ℕ) (room : s + n ≤ length a) (long : length ys ≡ n) where
  -- what stands before them
  put_before : (j : ℕ) → j < s → get_or (put_mid s n a ys) j 0 ≡ get_or a j 0
  put_before j h = search (rules, places)

  -- what stands past them
  put_past : (j : ℕ) → s + n ≤ j → get_or (put_mid s n a ys) j 0 ≡ get_or a j 0
  put_past j h = search (rules, places)

  -- they themselves
  put_inside : (r : ℕ) → r < n → get_or (put_mid s n a ys) (s + r) 0 ≡ get_or ys r 0
  put_inside r h = search (rules, places)

  -- as many in all
  put_length : length (put_mid s n a ys) ≡ length a
  put_length = search (rules, places)

module _ (a ys : List ℕ) (i n : ℕ) (low : i < 32) (long : length a ≡ 512) (sixteen : n ≡ 16) (none : ys ≡ replicate n 0) where
  -- zeros in the stead of the sixteen counts at the place i
  abbrev zeros : List ℕ
  zeros = put_mid (i * 16) n a ys

  -- they are as many
  as_many : length ys ≡ n
  as_many = ap length none ∙ length-replicate n 0

  -- so these counts are 0, and no other is
  pub cleared : Cleared a i zeros
  cleared = record { long = put_length a ys (i * 16) n (omega arith) as_many; here = fun_ext here; others = λ k ne. fun_ext (other k ne) }
    where
      zero_at : (r : ℕ) (d : Bool) → ltb r 16 ≡ d → only d (get_or zeros (i * 16 + r) 0) ≡ 0
      zero_at r true e =
          let lt : r < n = omega (arith, ltb-true r 16 e) in
          put_inside a ys (i * 16) n (omega arith) as_many r lt ∙ ap (λ l. get_or l r 0) none ∙ get_or-replicate n r 0 0 lt
      zero_at r false e = refl

      here : (r : ℕ) → count_of zeros i r ≡ 0
      here zero = refl
      here (suc r) = zero_at r (ltb r 16) refl

      side : (k : ℕ) → (k ≡ i → ⊥) → (r : ℕ) → r < 16 → Dec (k < i) → get_or zeros (k * 16 + r) 0 ≡ get_or a (k * 16 + r) 0
      side k ne r lt (yes h) = put_before a ys (i * 16) n (omega arith) as_many (k * 16 + r) (omega arith)
      side k ne r lt (no h) = put_past a ys (i * 16) n (omega arith) as_many (k * 16 + r) (omega arith)

      same_at : (k : ℕ) → (k ≡ i → ⊥) → (r : ℕ) (d : Bool) → ltb r 16 ≡ d
          → only d (get_or zeros (k * 16 + r) 0) ≡ only d (get_or a (k * 16 + r) 0)
      same_at k ne r true e = side k ne r (ltb-true r 16 e) (dec_lt k i)
      same_at k ne r false e = refl

      other : (k : ℕ) → (k ≡ i → ⊥) → (r : ℕ) → count_of zeros k r ≡ count_of a k r
      other k ne zero = refl
      other k ne (suc r) = same_at k ne r (ltb r 16) refl
