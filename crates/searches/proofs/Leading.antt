-- What makes a place the best, and how the best is found from the largest number.
use mathlib.Core.Path.{◌≡◌, refl, sym, subst}
use mathlib.Core.Bool.{Bool, true, false, ◌&&◌}
use Prim.Native.Nat.{ℕ, zero, suc, ◌≤◌, ◌<◌}
use native.Mathlib.Nat.{le_refl}
use native.Mathlib.Omega.{arith}
use native.Mathlib.Decide.{ℕ_discrete}
use lib.Dec.{ltb, eqb}
use borrow.Author.Tests.{lt-ltb, le-ltb, ltb-true, eqb-true, eq-eqb}
use Rattle.searches.specs.Searches.{Place, nowhere, at, or_else, if_here, first, best, beats, largest, only}
use Rattle.searches.proofs.Testing.{impossible, and_true, true_and}
use Rattle.searches.proofs.Searching.{first_here, first_none, Best, best_found, largest_reaches, largest_below}

-- ---- the best, by what makes it so

-- The place i passes the test, no place that passes has a larger number, and none before it as large a one.
pub record Leads (test : ℕ → Bool) (f : ℕ → ℕ) (n i : ℕ) : Type 0 where
  pub within : i < n
  pub passes : test i ≡ true
  pub most : (j : ℕ) → j < n → test j ≡ true → f j ≤ f i
  pub first : (j : ℕ) → j < i → test j ≡ true → f j < f i

-- such a place is the best
pub leads_best : (test : ℕ → Bool) (f : ℕ → ℕ) (n i : ℕ) → Leads test f n i → best test f n ≡ at i
unfolding best
leads_best test f zero i L = absurd (omega (arith, L.within))
leads_best test f (suc k) i L =
    go (ℕ_discrete i k)
    (λ lt. leads_best test f k i (record { within = lt; passes = L.passes; most = λ j h. L.most j (omega arith); first = L.first }))
  where
    beaten : (p : Place) → Best test f k p → i ≡ k → or_else (if_here (test k && beats f k p) k) p ≡ at i
    beaten nowhere B e = rw (← e, L.passes)
    beaten (at j) B e = let h : f j < f i = L.first j (omega (arith, B.0)) B.1 in rw (← e, L.passes, lt-ltb (f j) (f i) h)

    kept : (b : Bool) → test k ≡ b → or_else (if_here (b && ltb (f i) (f k)) k) (at i) ≡ at i
    kept true e = rw (le-ltb (f i) (f k) (L.most k (omega arith) e))
    kept false e = refl

    go : Dec (i ≡ k) → (i < k → best test f k ≡ at i) → or_else (if_here (test k && beats f k (best test f k)) k) (best test f k) ≡ at i
    go (yes e) more = beaten (best test f k) (best_found test f k) e
    go (no ne) more = rw (more (omega (arith, L.within))) (kept (test k) refl)

-- none before the best has as large a number
best_first : (test : ℕ → Bool) (f : ℕ → ℕ) (i n : ℕ) → best test f n ≡ at i → (j : ℕ) → j < i → test j ≡ true → f j < f i
unfolding best
best_first test f i zero e j lt t = absurd (impossible cc)
best_first test f i (suc k) e j lt t = go (best test f k) (test k) (best_found test f k) (λ q. best_first test f i k q j lt t) e
  where
    beat : (m : ℕ) (d : Bool) → ltb (f m) (f k) ≡ d → Best test f k (at m) → (at m ≡ at i → f j < f i) → or_else (if_here d k) (at m) ≡ at i → f j < f i
    beat m true h B more e = let w : k ≡ i = cc in rw (← w) (omega (arith, ltb-true (f m) (f k) h, B.2 j (omega arith) t))
    beat m false h B more e = more e

    go : (p : Place) (b : Bool) → Best test f k p → (p ≡ at i → f j < f i) → or_else (if_here (b && beats f k p) k) p ≡ at i → f j < f i
    go nowhere true B more e = let w : k ≡ i = cc in absurd (B j (omega arith) t)
    go nowhere false B more e = more e
    go (at m) false B more e = more e
    go (at m) true B more e = beat m (ltb (f m) (f k)) refl B more e

-- the best is such a place
pub best_leads : (test : ℕ → Bool) (f : ℕ → ℕ) (n i : ℕ) → best test f n ≡ at i → Leads test f n i
best_leads test f n i e =
    let B = subst (λ p. Best test f n p) e (best_found test f n) in
    record { within = B.0; passes = B.1; most = B.2; first = best_first test f i n e }

-- a number under a test is no larger
pub only_most : (b : Bool) (x : ℕ) → only b x ≤ x
only_most true x = omega arith
only_most false x = omega arith

-- ---- the best, by the largest number

-- the numbers of those that pass the test
abbrev pub passed : (ℕ → Bool) → (ℕ → ℕ) → ℕ → ℕ
passed test f i = only (test i) (f i)

-- it is the first that passes the test and has the largest number of those
pub best_by_largest : (test : ℕ → Bool) (f : ℕ → ℕ) (n : ℕ) → first (λ i. test i && eqb (f i) (largest (passed test f) n)) n ≡ best test f n
best_by_largest test f n = go (best test f n) refl (best_found test f n)
  where
    none : (h : ℕ) → ((j : ℕ) → j < n → test j ≡ true → ⊥) → first (λ i. test i && eqb (f i) h) n ≡ nowhere
    none h B = first_none (λ i. test i && eqb (f i) h) n (λ j lt e. B j lt (and_true (test j) (eqb (f j) h) e).0)

    some : (i : ℕ) → best test f n ≡ at i → Best test f n (at i) → (h : ℕ) → h ≡ f i → first (λ j. test j && eqb (f j) h) n ≡ at i
    some i e B h q =
        first_here (λ j. test j && eqb (f j) h) i n
        (first_none (λ j. test j && eqb (f j) h) i
        (λ j lt g.
        let w = and_true (test j) (eqb (f j) h) g in
        omega (arith, best_first test f i n e j lt w.0, eqb-true (f j) h w.1)))
        (true_and B.1 (eq-eqb (f i) h (sym q))) B.0

    most : (i : ℕ) → Best test f n (at i) → largest (passed test f) n ≡ f i
    most i B =
        let low = largest_below (passed test f) n (f i) (λ j lt. under j lt (test j) refl) in
        let high = largest_reaches (passed test f) n i B.0 (subst (λ b. f i ≤ only b (f i)) (sym B.1) (le_refl (f i))) in
        omega arith
      where
        under : (j : ℕ) → j < n → (b : Bool) → test j ≡ b → only b (f j) ≤ f i
        under j lt true e = B.2 j lt e
        under j lt false e = omega arith

    go : (p : Place) → best test f n ≡ p → Best test f n p → first (λ i. test i && eqb (f i) (largest (passed test f) n)) n ≡ p
    go nowhere e B = none (largest (passed test f) n) B
    go (at i) e B = some i e B (largest (passed test f) n) (most i B)
