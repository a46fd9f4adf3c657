-- What the searches over the places below a number find.
use mathlib.Core.Path.{◌≡◌, refl, sym, ◌∙◌}
use mathlib.Core.Logic.{◌⊎◌, inl, inr}
use mathlib.Core.Bool.{Bool, true, false, ◌&&◌, ◌||◌, and-false}
use Prim.Native.Nat.{ℕ, zero, suc, ◌+◌, ◌≤◌, ◌<◌, max}
use native.Mathlib.Nat.{le_refl}
use native.Mathlib.Numerals.{add-one}
use native.Mathlib.Omega.{arith}
use native.Mathlib.Decide.{dec_lt, ℕ_discrete}
use lib.Dec.{ltb}
use borrow.Author.Tests.{ltb-true, ltb-false}
use Rattle.searches.specs.Searches.{Place, nowhere, at, or_else, if_here, first, beats, best, all, some, largest}
use Rattle.searches.proofs.Testing.{impossible, and_true, true_and}

-- what holds below k and at k holds below the next
one_place_more : (Q : ℕ → Type 0) (k : ℕ) → ((j : ℕ) → j < k → Q j) → Q k → (j : ℕ) → j < suc k → Q j
one_place_more Q k h q j lt = go (ℕ_discrete j k)
  where
    go : Dec (j ≡ k) → Q j
    go (yes e) = rw e q
    go (no ne) = h j (omega arith)

-- ---- the first

-- the place that is found lies below n and passes the test
pub first_found : (test : ℕ → Bool) (n i : ℕ) → first test n ≡ at i → (i < n) × (test i ≡ true)
unfolding first
first_found test zero i e = absurd (impossible cc)
first_found test (suc k) i e = go (first test k) (test k) refl (first_found test k) e
  where
    go : (p : Place) (b : Bool) → test k ≡ b → ((i : ℕ) → p ≡ at i → (i < k) × (test i ≡ true)) → or_else p (if_here b k) ≡ at i
        → (i < suc k) × (test i ≡ true)
    go nowhere true t h e = let q : k ≡ i = cc in (omega arith, rw (← q) t)
    go nowhere false t h e = absurd (impossible cc)
    go (at j) b t h e = let w = h i e in (omega arith, w.1)

-- none before this place, and this place passes
pub first_here : (test : ℕ → Bool) (i n : ℕ) → first test i ≡ nowhere → test i ≡ true → i < n → first test n ≡ at i
unfolding first
first_here test i zero e t h = absurd (omega arith)
first_here test i (suc n) e t h = go (ℕ_discrete i n) (first_here test i n e t)
  where
    go : Dec (i ≡ n) → (i < n → first test n ≡ at i) → or_else (first test n) (if_here (test n) n) ≡ at i
    go (yes q) more = rw (← q, e, t)
    go (no ne) more = rw (more (omega arith))

-- none before this place, nor here
pub first_on : (test : ℕ → Bool) (i : ℕ) → first test i ≡ nowhere → test i ≡ false → first test (i + 1) ≡ nowhere
unfolding first
first_on test i e t = rw (add-one, e, t)

-- where none passes there is none
pub first_none : (test : ℕ → Bool) (n : ℕ) → ((j : ℕ) → j < n → test j ≡ true → ⊥) → first test n ≡ nowhere
unfolding first
first_none test zero h = refl
first_none test (suc k) h = rw (first_none test k (λ j lt. h j (omega arith))) (go (test k) refl)
  where
    go : (b : Bool) → test k ≡ b → if_here b k ≡ nowhere
    go true e = absurd (h k (omega arith) e)
    go false e = refl

-- ---- the best

-- Of the places below n this one passes the test, and none that passes has a larger number; or none passes.
abbrev pub Best : (ℕ → Bool) → (ℕ → ℕ) → ℕ → Place → Type 0
Best test f n nowhere = (j : ℕ) → j < n → test j ≡ true → ⊥
Best test f n (at i) = (i < n) × (test i ≡ true) × ((j : ℕ) → j < n → test j ≡ true → f j ≤ f i)

-- `best` finds such a place
pub best_found : (test : ℕ → Bool) (f : ℕ → ℕ) (n : ℕ) → Best test f n (best test f n)
unfolding best
best_found test f zero = λ j lt e. omega arith
best_found test f (suc k) = go (best test f k) (test k) refl (best_found test f k)
  where
    beat : (i : ℕ) (b : Bool) → ltb (f i) (f k) ≡ b → test k ≡ true → Best test f k (at i) → Best test f (suc k) (or_else (if_here b k) (at i))
    beat i true t e h = (
      omega arith,
      e,
      one_place_more (λ j. test j ≡ true → f j ≤ f k) k (λ j lt d. omega (arith, h.2 j lt d, ltb-true (f i) (f k) t)) (λ d. le_refl (f k)),
    )
    beat i false t e h =
        (omega (arith, h.0), h.1, one_place_more (λ j. test j ≡ true → f j ≤ f i) k h.2 (λ d. ltb-false (f i) (f k) t))

    go : (p : Place) (b : Bool) → test k ≡ b → Best test f k p → Best test f (suc k) (or_else (if_here (b && beats f k p) k) p)
    go nowhere true t h =
        (omega arith, t, one_place_more (λ j. test j ≡ true → f j ≤ f k) k (λ j lt d. absurd (h j lt d)) (λ d. le_refl (f k)))
    go nowhere false t h = one_place_more (λ j. test j ≡ true → ⊥) k h (λ d. impossible cc)
    go (at i) true t h = beat i (ltb (f i) (f k)) refl t h
    go (at i) false t h =
        (omega (arith, h.0), h.1, one_place_more (λ j. test j ≡ true → f j ≤ f i) k h.2 (λ d. absurd (impossible cc)))

-- by tests that pass the same places it finds the same
pub best_same : (test other : ℕ → Bool) (f : ℕ → ℕ) (n : ℕ) → ((i : ℕ) → i < n → test i ≡ other i) → best test f n ≡ best other f n
unfolding best
best_same test other f zero h = refl
best_same test other f (suc k) h = rw (best_same test other f k (λ i lt. h i (omega arith)), h k (omega arith))

-- ---- the largest

-- the largest reaches what one of the numbers reaches
pub largest_reaches : (f : ℕ → ℕ) (n i : ℕ) {x : ℕ} → i < n → x ≤ f i → x ≤ largest f n
unfolding largest
largest_reaches f zero i lt le = omega arith
largest_reaches f (suc k) i {x} lt le =
    one_place_more (λ j. x ≤ f j → x ≤ max (largest f k) (f k)) k (λ j h d. omega (arith, largest_reaches f k j h d)) (λ d. omega arith) i lt le

-- what no number is above, the largest is not above
pub largest_below : (f : ℕ → ℕ) (n b : ℕ) → ((i : ℕ) → i < n → f i ≤ b) → largest f n ≤ b
unfolding largest
largest_below f zero b h = omega arith
largest_below f (suc k) b h = omega (arith, largest_below f k b (λ i lt. h i (omega arith)), h k (omega arith))

-- the largest is 0, or one of the numbers
pub largest_attained : (f : ℕ → ℕ) (n : ℕ) → (largest f n ≡ 0) ⊎ ((i : ℕ) × (i < n) × (f i ≡ largest f n))
unfolding largest
largest_attained f zero = inl refl
largest_attained f (suc k) = go (dec_lt (largest f k) (f k)) (largest_attained f k)
  where
    go : Dec (largest f k < f k) → (largest f k ≡ 0) ⊎ ((i : ℕ) × (i < k) × (f i ≡ largest f k))
        → (max (largest f k) (f k) ≡ 0) ⊎ ((i : ℕ) × (i < suc k) × (f i ≡ max (largest f k) (f k)))
    go (yes lt) h = inr (k, omega arith, omega arith)
    go (no ge) (inl z) = inl (omega arith)
    go (no ge) (inr w) = inr (w.0, omega (arith, w.1), omega (arith, w.2))

-- one number more
pub largest_more : (f : ℕ → ℕ) (n : ℕ) → largest f (n + 1) ≡ max (largest f n) (f n)
unfolding largest
largest_more f n = rw add-one

-- the same, as a loop has it
pub largest_on : (f : ℕ → ℕ) (n x : ℕ) → x ≡ max (largest f n) (f n) → x ≡ largest f (n + 1)
largest_on f n x e = e ∙ sym (largest_more f n)

-- ---- all, and some

-- one test more
pub all_more : (test : ℕ → Bool) (n : ℕ) → all test (n + 1) ≡ all test n && test n
unfolding all
all_more test n = rw add-one

-- tests that are equal at each place
pub all_same : (test other : ℕ → Bool) (n : ℕ) → ((i : ℕ) → i < n → test i ≡ other i) → all test n ≡ all other n
unfolding all
all_same test other zero h = refl
all_same test other (suc k) h = rw (all_same test other k (λ i lt. h i (omega arith)), h k (omega arith))

-- where each passes all pass
pub all_true : (test : ℕ → Bool) (n : ℕ) → ((i : ℕ) → i < n → test i ≡ true) → all test n ≡ true
unfolding all
all_true test zero h = refl
all_true test (suc k) h = true_and (all_true test k (λ i lt. h i (omega arith))) (h k (omega arith))

-- where all pass each passes
pub all_each : (test : ℕ → Bool) (n : ℕ) → all test n ≡ true → (i : ℕ) → i < n → test i ≡ true
unfolding all
all_each test zero e i lt = absurd (omega arith)
all_each test (suc k) e i lt =
    let both = and_true (all test k) (test k) e in
    one_place_more (λ i. test i ≡ true) k (all_each test k both.0) both.1 i lt

-- where not all pass one fails
pub all_fails : (test : ℕ → Bool) (n : ℕ) → all test n ≡ false → (i : ℕ) × (i < n) × (test i ≡ false)
unfolding all
all_fails test zero e = absurd (impossible cc)
all_fails test (suc k) e = go (all test k) refl e (all_fails test k)
  where
    go : (b : Bool) → all test k ≡ b → b && test k ≡ false → (all test k ≡ false → (i : ℕ) × (i < k) × (test i ≡ false))
        → (i : ℕ) × (i < suc k) × (test i ≡ false)
    go true f e more = (k, omega arith, e)
    go false f e more = let w = more f in (w.0, omega (arith, w.1), w.2)

-- where one passes some pass
pub some_true : (test : ℕ → Bool) (n i : ℕ) → i < n → test i ≡ true → some test n ≡ true
unfolding some
some_true test zero i lt e = absurd (omega arith)
some_true test (suc k) i lt e = go (some test k) (ℕ_discrete i k) (some_true test k i)
  where
    go : (b : Bool) → Dec (i ≡ k) → (i < k → test i ≡ true → b ≡ true) → b || test k ≡ true
    go true d more = refl
    go false (yes q) more = rw (← q) e
    go false (no ne) more = absurd (let z = more (omega arith) e in impossible cc)

-- one that fails is enough
pub all_not : (test : ℕ → Bool) (i n : ℕ) → test i ≡ false → i < n → all test n ≡ false
unfolding all
all_not test i zero t h = absurd (omega arith)
all_not test i (suc n) t h = go (ℕ_discrete i n) (all_not test i n t)
  where
    go : Dec (i ≡ n) → (i < n → all test n ≡ false) → all test n && test n ≡ false
    go (yes q) more = rw (← q, t) (and-false (all test i))
    go (no ne) more = rw (more (omega arith))

-- one more passes
pub all_on : (test : ℕ → Bool) (i : ℕ) → all test i ≡ true → test i ≡ true → all test (i + 1) ≡ true
unfolding all
all_on test i e t = rw (add-one, e, t)

-- one more fails
pub some_on : (test : ℕ → Bool) (i : ℕ) → some test i ≡ false → test i ≡ false → some test (i + 1) ≡ false
unfolding some
some_on test i e t = rw (add-one, e, t)
