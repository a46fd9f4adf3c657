-- Records that are put into a buffer one after the other: what its front holds then.
use Prim.Native.Nat.{ℕ, ◌+◌, ◌*◌, ◌<◌, ◌≤◌, min}
use lib.Dec.{ltb}
use mathlib.Core.Path.{◌≡◌, sym, ap, ◌∙◌}
use mathlib.Core.Bool.{Bool, true, false, cond}
use mathlib.Core.List.{List, [], ◌∷◌, ◌++◌, append_assoc, append-nil}
use native.Mathlib.Numerals.{add-one}
use native.Mathlib.Nat.{add-zero, mul-le-mul_left}
use native.Mathlib.Omega.{arith}
use lib.ListN.{length, get_or, set, take, drop, length-append}
use lib.Seq.{sets, sets-eq, take_at, length-take-le, take-take, take-suc-set, get_or-take}
use Rattle.searches.specs.Indexed.{every}
use Rattle.searches.proofs.Indexed.{every_more, every_same}
use Rattle.held.specs.Writing.{all, records_bytes, part_bytes}
use Rattle.held.proofs.Joined.{all_append}

-- ---- the front of a buffer after a store of several bytes

module _ (b : List ℕ) (at : ℕ) (vs : List ℕ) (room : at + length vs ≤ length b) where
  -- they stand behind what stood before them
  pub front_more : take (at + length vs) (sets b at vs) ≡ take at b ++ vs
  front_more =
      let l : length (take at b) ≡ at = length-take-le at b (omega arith) in
      ap (take (at + length vs)) (sets-eq vs b at room)
      ∙ take_at (take at b ++ vs) (drop (at + length vs) b) (at + length vs) (omega (arith, length-append (take at b) vs))

  -- which stays
  pub front_kept : take at (sets b at vs) ≡ take at b
  front_kept =
      let l : length (take at b) ≡ at = length-take-le at b (omega arith) in
      sym (take-take at (at + length vs) (sets b at vs) (omega arith)) ∙ ap (take at) front_more ∙ take_at (take at b) vs at l

-- ---- records one after the other

-- with record i put at its place, the front holds i + 1 records behind what stood before them
module _ {A : Type 0} (e : A → List ℕ) (step : ℕ) (long : (x : A) → length (e x) ≡ step) (g : ℕ → A) (pos : ℕ → ℕ)
    (on : (j : ℕ) → pos (j + 1) ≡ pos j + step) (pre : List ℕ) where
  pub put_next : (b : List ℕ) (i : ℕ) → pos i + step ≤ length b → take (pos i) b ≡ pre ++ all e (every g i 0)
      → take (pos (i + 1)) (sets b (pos i) (e (g i))) ≡ pre ++ all e (every g (i + 1) 0)
  unfolding all
  put_next b i room h =
      let l = long (g i) in
      let n : pos (i + 1) ≡ pos i + length (e (g i)) = omega (arith, on i) in
      ap (λ (k : ℕ). take k (sets b (pos i) (e (g i)))) n
      ∙ front_more b (pos i) (e (g i)) (omega arith)
      ∙ ap (λ (x : List ℕ). x ++ e (g i)) h
      ∙ append_assoc pre (all e (every g i 0)) (e (g i))
      ∙ ap (λ (x : List ℕ). pre ++ x)
      (ap (λ (x : List ℕ). all e (every g i 0) ++ x) (sym (append-nil (e (g i))))
      ∙ sym (all_append e (every g i 0) (g i ∷ []))
      ∙ ap (all e) (sym (every_more g i)))

-- one record more counts only where the test says so
pub put_beyond : (b c : List ℕ) (at n : ℕ) (front more : List ℕ) (test : Bool) → c ≡ sets b at more → take at b ≡ front → at + length more ≤ length b
    → n ≡ cond test (length more) 0 → take (at + n) c ≡ front ++ cond test more []
put_beyond b c at n front more true e h room s =
    ap (λ (k : ℕ). take (at + k) c) s ∙ ap (take (at + length more)) e ∙ front_more b at more room ∙ ap (λ (x : List ℕ). x ++ more) h
put_beyond b c at n front more false e h room s =
    ap (λ (k : ℕ). take (at + k) c) s ∙ ap (λ (k : ℕ). take k c) (add-zero at) ∙ ap (take at) e ∙ front_kept b at more room ∙ h ∙ sym (append-nil front)

-- the records that count, and an empty one behind them, of which the front has as much as the test says
pub put_part_lem : {A : Type 0} (e : A → List ℕ) (none : A) (size : ℕ) → ((x : A) → length (e x) ≡ size) → (b c pre : List ℕ) (xs : List A) (start first count n : ℕ)
    → first ≡ min count (length xs)
    → take (start + size * length (take first xs)) b ≡ pre ++ records_bytes e none (take first xs) (length (take first xs))
    → c ≡ sets b (start + size * first) (e none) → start + size * (length xs + 1) ≤ length b
    → n ≡ start + size * first + cond (ltb (length xs) count) size 0 → take n c ≡ pre ++ part_bytes e none (length xs) xs count
put_part_lem e none size long b c pre xs start first count n m f h room s =
    let test = ltb (length xs) count in
    let few : first ≤ length xs = omega arith in
    let most : size * first ≤ size * length xs = mul-le-mul_left size few in
    let counted : length (take first xs) ≡ first = length-take-le first xs few in
    let own =
    every_same (λ (i : ℕ). get_or (take first xs) i none) (λ (i : ℕ). get_or xs i none) first 0 (λ j l. get_or-take first xs j none (omega arith)) in
    let front : take (start + size * first) b ≡ pre ++ records_bytes e none xs (min count (length xs)) =
    ap (λ (k : ℕ). take (start + size * k) b) (sym counted) ∙ f ∙ ap (λ (k : ℕ). pre ++ records_bytes e none (take first xs) k) counted
    ∙ ap (λ (l : List _). pre ++ all e l) own ∙ ap (λ (k : ℕ). pre ++ records_bytes e none xs k) m in
    let l = long none in
    ap (λ (k : ℕ). take k c) s
    ∙ put_beyond b c (start + size * first) (cond test size 0) (pre ++ records_bytes e none xs (min count (length xs))) (e none) test h front (omega arith)
    (ap (λ (k : ℕ). cond test k 0) (sym l))
    ∙ append_assoc pre (records_bytes e none xs (min count (length xs))) (cond test (e none) [])

-- the end record behind the front
pub put_end : (b : List ℕ) (at : ℕ) (front middle : List ℕ) → take at b ≡ front ++ middle → at < length b → take (at + 1) (set b at 3) ≡ front ++ (middle ++ 3 ∷ [])
put_end b at front middle h room = rw add-one (take-suc-set b at 3 room ∙ ap (λ (x : List ℕ). x ++ (3 ∷ [])) h ∙ append_assoc front middle (3 ∷ []))
