-- Laws of vectors: their order, their sum, the test of equality, and a value replaced.
use Rattle.std.specs.Prelude.{◌≡◌, refl, List, [], ◌∷◌, Bool, true, false, ℕ, zero, suc, ◌≤◌, ◌<◌, eqb, length, set}
use Rattle.std.proofs.Common.{sym, ap, ap₂, ◌∙◌, true≢false, le_refl, le_trans, le_antisymm, arith, ext_get_or, eqb-true, eq-eqb}
use Rattle.std.proofs.Math.Nat.{suc_inj}
use Rattle.searches.proofs.Testing.{and_true}
use Rattle.rounds.specs.Vector.{at, ◌⊑◌, sum, same}

-- ---- the order

-- A vector is not above itself.
pub ⊑_refl : (v : List ℕ) → v ⊑ v
⊑_refl v j = le_refl (at v j)

-- What is below a lower vector is below the higher one.
pub ⊑_trans : (u v w : List ℕ) → u ⊑ v → v ⊑ w → u ⊑ w
⊑_trans u v w p q j = le_trans (p j) (q j)

-- Two vectors of one length, neither above the other, are equal.
pub ⊑-antisymm : (v w : List ℕ) → length v ≡ length w → v ⊑ w → w ⊑ v → v ≡ w
⊑-antisymm v w l p q = ext_get_or 0 v w l (λ j h. le_antisymm (p j) (q j))

-- ---- the sum

-- A lower vector has no larger sum.
pub sum_mono : (v w : List ℕ) → length v ≡ length w → v ⊑ w → sum v ≤ sum w
sum_mono [] w l h = omega arith
sum_mono (x ∷ xs) [] l h = absurd (omega arith)
sum_mono (x ∷ xs) (y ∷ ys) l h = omega (arith, h zero, sum_mono xs ys (suc_inj l) (λ j. h (suc j)))

-- A lower vector with no smaller sum is the same vector.
pub sum_same : (v w : List ℕ) → length v ≡ length w → v ⊑ w → sum w ≤ sum v → v ≡ w
sum_same [] [] l h s = refl
sum_same [] (y ∷ ys) l h s = absurd (omega arith)
sum_same (x ∷ xs) [] l h s = absurd (omega arith)
sum_same (x ∷ xs) (y ∷ ys) l h s =
    let m : sum xs ≤ sum ys = sum_mono xs ys (suc_inj l) (λ j. h (suc j)) in
    ap₂ ◌∷◌ (omega (arith, h zero)) (sum_same xs ys (suc_inj l) (λ j. h (suc j)) (omega (arith, h zero)))

-- ---- the test

-- Vectors that test as the same are equal.
pub same_true : (v w : List ℕ) → same v w ≡ true → v ≡ w
same_true [] [] e = refl
same_true [] (y ∷ ys) e = cc
same_true (x ∷ xs) [] e = cc
same_true (x ∷ xs) (y ∷ ys) e =
    let b = and_true (eqb x y) (same xs ys) e in
    ap₂ ◌∷◌ (eqb-true x y b.0) (same_true xs ys b.1)

-- A vector tests as the same as itself.
pub same_refl : (v : List ℕ) → same v v ≡ true
same_refl [] = refl
same_refl (x ∷ xs) = rw (eq-eqb x x refl) (same_refl xs)

-- Vectors that test as different are not equal.
pub same_false : (v w : List ℕ) → same v w ≡ false → v ≡ w → ⊥
same_false v w e q = true≢false (sym (same_refl v) ∙ ap (same v) q ∙ e)

-- Vectors that are not equal test as different.
pub not_same : (v w : List ℕ) → (v ≡ w → ⊥) → same v w ≡ false
not_same v w ne = go (same v w) refl
  where
    go : (b : Bool) → same v w ≡ b → b ≡ false
    go true e = absurd (ne (same_true v w e))
    go false e = refl

-- ---- a value replaced

-- What holds of each task's value holds after the task i took x, if it holds of x at i.
pub at_set : (P : ℕ → ℕ → Type 0) (v : List ℕ) (i x j : ℕ) → P j (at v j) → P i x → P j (at (set v i x) j)
at_set P [] i x j p q = p
at_set P (y ∷ ys) zero x zero p q = q
at_set P (y ∷ ys) zero x (suc j) p q = p
at_set P (y ∷ ys) (suc i) x zero p q = p
at_set P (y ∷ ys) (suc i) x (suc j) p q = at_set (λ k. P (suc k)) ys i x j p q

-- A smaller value gives a lower vector.
pub set_below : (v : List ℕ) (i x : ℕ) → x ≤ at v i → set v i x ⊑ v
set_below v i x h j = at_set (λ k y. y ≤ at v k) v i x j (le_refl (at v j)) h

-- A value above 0 stands inside the vector.
pub at_inside : (v : List ℕ) (i : ℕ) → 0 < at v i → i < length v
at_inside [] i h = absurd (omega arith)
at_inside (y ∷ ys) zero h = omega arith
at_inside (y ∷ ys) (suc i) h = omega (arith, at_inside ys i h)
