-- Laws of lists over an index.
use Prim.Native.Nat.{ℕ, zero, suc, ◌+◌, ◌-◌, ◌<◌, ◌≤◌}
use mathlib.Core.Path.{◌≡◌, refl, sym, ap, ◌∙◌}
use mathlib.Core.List.{List, [], ◌∷◌, ◌++◌, append_assoc}
use native.Mathlib.Numerals.{add-one}
use native.Mathlib.Nat.{add-zero}
use native.Mathlib.Decide.{dec_lt}
use native.Mathlib.Omega.{arith}
use lib.ListN.{length, get_or, set, take, drop, replicate, length-append, length-replicate, get_or-append}
use lib.Seq.{ext_get_or, set_at, drop-cons, get_or-append-add}
use Rattle.searches.specs.Indexed.{every}

-- ---- lists that a loop fills from the front, one entry a turn

module _ {A : Type 0} (f : ℕ → A) where
  -- there are k of them
  pub length_every : (k i : ℕ) → length (every f k i) ≡ k
  unfolding every
  length_every zero i = refl
  length_every (suc k) i = ap suc (length_every k (i + 1))

  -- one more at the end
  pub every_snoc : (k i : ℕ) → every f (suc k) i ≡ every f k i ++ (f (i + k) ∷ [])
  unfolding every
  every_snoc zero i = rw add-zero
  every_snoc (suc k) i =
      let e : i + 1 + k ≡ i + suc k = omega arith in
      ap (λ (l : List A). f i ∷ l) (every_snoc k (i + 1) ∙ ap (λ (n : ℕ). every f k (i + 1) ++ (f n ∷ [])) e)

  -- one more from the first on
  pub every_more : (i : ℕ) → every f (i + 1) 0 ≡ every f i 0 ++ (f i ∷ [])
  every_more i = let z : 0 + i ≡ i = omega arith in rw (add-one, every_snoc i 0, z)

  module _ (total : ℕ) (none : A) where
    -- i entries of total, and the rest none
    abbrev pub filled : ℕ → List A
    filled i = every f i 0 ++ replicate (total - i) none

    -- before the first
    pub fill_start : replicate total none ≡ filled 0
    unfolding every
    fill_start = let e : total ≡ total - 0 = omega arith in ap (λ (n : ℕ). replicate n none) e

    -- one more is stored
    pub fill_more : (i : ℕ) → i < total → set (filled i) i (f i) ≡ filled (i + 1)
    fill_more i h =
        let e : total - i ≡ suc (total - (i + 1)) = omega arith in
        rw (e, every_more i, append_assoc)
        (set_at (every f i 0) none (replicate (total - (i + 1)) none) (f i) i (length_every i 0))

-- ---- what such lists hold

module _ {A : Type 0} where
  -- an entry
  pub get_or_every : (f : ℕ → A) (k i j : ℕ) (d : A) → j < k → get_or (every f k i) j d ≡ f (i + j)
  unfolding every
  get_or_every f zero i j d h = absurd (omega arith)
  get_or_every f (suc k) i zero d h = ap f (sym (add-zero i))
  get_or_every f (suc k) i (suc j) d h = let e : i + 1 + j ≡ i + suc j = omega arith in get_or_every f k (i + 1) j d (omega arith) ∙ ap f e

  -- from the first on
  pub every_at : (f : ℕ → A) (k j : ℕ) (d : A) → j < k → get_or (every f k 0) j d ≡ f j
  every_at f k j d h = let z : 0 + j ≡ j = omega arith in get_or_every f k 0 j d h ∙ ap f z

  -- one value everywhere
  pub same_at : (none : A) (n j : ℕ) → get_or (replicate n none) j none ≡ none
  same_at none zero j = refl
  same_at none (suc n) zero = refl
  same_at none (suc n) (suc j) = same_at none n j

  -- k entries, and the rest none: an entry
  pub filled_at : (f : ℕ → A) (none : A) (k more j : ℕ) → j < k → get_or (every f k 0 ++ replicate more none) j none ≡ f j
  filled_at f none k more j h =
      get_or-append (every f k 0) (replicate more none) none j (omega (arith, length_every f k 0)) ∙ every_at f k j none h

  -- and past them
  pub filled_past : (f : ℕ → A) (none : A) (k more j : ℕ) → k ≤ j → get_or (every f k 0 ++ replicate more none) j none ≡ none
  filled_past f none k more j h =
      let there : j ≡ length (every f k 0) + (j - k) = omega (arith, length_every f k 0) in
      ap (λ (n : ℕ). get_or (every f k 0 ++ replicate more none) n none) there
      ∙ get_or-append-add (every f k 0) (replicate more none) (j - k) none ∙ same_at none more (j - k)

  -- how long that is
  pub filled_length : (f : ℕ → A) (none : A) (total k : ℕ) → k ≤ total → length (every f k 0 ++ replicate (total - k) none) ≡ total
  filled_length f none total k h =
      length-append (every f k 0) (replicate (total - k) none)
      ∙ omega (arith, length_every f k 0, length-replicate {A = A} (total - k) none)

  -- a list with these entries, and none past them, is that
  pub filled_is : (f : ℕ → A) (none : A) (total k : ℕ) (l : List A) → k ≤ total → length l ≡ total → ((i : ℕ) → i < k → get_or l i none ≡ f i)
      → ((i : ℕ) → k ≤ i → i < total → get_or l i none ≡ none) → l ≡ every f k 0 ++ replicate (total - k) none
  filled_is f none total k l h size here past =
      ext_get_or none l (every f k 0 ++ replicate (total - k) none) (size ∙ sym (filled_length f none total k h)) (λ i p. go i p (dec_lt i k))
    where
      go : (i : ℕ) → i < length l → Dec (i < k) → get_or l i none ≡ get_or (every f k 0 ++ replicate (total - k) none) i none
      go i p (yes q) = here i q ∙ sym (filled_at f none k (total - k) i q)
      go i p (no q) = past i (omega arith) (omega arith) ∙ sym (filled_past f none k (total - k) i (omega arith))

  -- equal where they are read
  pub every_same : (f g : ℕ → A) (k i : ℕ) → ((j : ℕ) → j < i + k → f j ≡ g j) → every f k i ≡ every g k i
  unfolding every
  every_same f g zero i h = refl
  every_same f g (suc k) i h =
      ap (λ (x : A). x ∷ every f k (i + 1)) (h i (omega arith)) ∙ ap (λ (l : List A). g i ∷ l) (every_same f g k (i + 1) (λ j b. h j (omega arith)))

  -- the entries of a list one by one are the list
  pub every_take : (xs : List A) (d : A) (k i : ℕ) → i + k ≤ length xs → every (λ (j : ℕ). get_or xs j d) k i ≡ take k (drop i xs)
  unfolding every
  every_take xs d zero i h = refl
  every_take xs d (suc k) i h =
      ap (λ (l : List A). get_or xs i d ∷ l) (every_take xs d k (i + 1) (omega arith))
      ∙ rw add-one (sym (ap (take (suc k)) (drop-cons xs i d (omega arith))))

-- a list is what its places hold
pub listed : {A : Type 0} (l : List A) (d : A) (n : ℕ) (f : ℕ → A) → length l ≡ n → ((k : ℕ) → k < n → get_or l k d ≡ f k) → l ≡ every f n 0
listed l d n f e h =
    ext_get_or d l (every f n 0) (e ∙ sym (length_every f n 0))
    (λ k lt. h k (omega arith) ∙ sym (every_at f n k d (omega arith)))
