-- Different numbers, each with a hole of its own below n, are at most n.
use mathlib.Core.Path.{◌≡◌, refl, sym, subst}
use mathlib.Core.List.{List, [], ◌∷◌}
use mathlib.Core.Logic.{inl, inr, ⊎_elim}
use Prim.Native.Nat.{ℕ, zero, suc, ◌+◌, ◌≤◌, ◌<◌}
use native.Mathlib.Omega.{arith}
use native.Mathlib.Decide.{ℕ_discrete}
use lib.ListN.{length}
use Rattle.protocol.specs.ShortWaits.{Among, Distinct}

-- What is left of a list when the one in the hole n is taken out: holes below n are enough.
record Thinned (R : ℕ → ℕ → Type 0) (n : ℕ) (l : List ℕ) : Type 0 where
  rest : List ℕ
  distinct : Distinct rest
  part : (o : ℕ) → Among o rest → Among o l
  hole : (o : ℕ) → Among o rest → (x : ℕ) × (x < n) × R o x
  shorter : length l ≤ length rest + 1

module _ (R : ℕ → ℕ → Type 0) (one : (o u x : ℕ) → R o x → R u x → o ≡ u) where
  -- take it out
  thin : (n : ℕ) (l : List ℕ) → Distinct l → ((o : ℕ) → Among o l → (x : ℕ) × (x < suc n) × R o x) → Thinned R n l
  thin n [] d h = record { rest = []; distinct = tt; part = λ o p. p; hole = λ o p. absurd p; shorter = omega arith }
  thin n (y ∷ l) d h = go (h y (inl refl)) (thin n l d.1 (λ o p. h o (inr p)))
    where
      other : (x : ℕ) → R y x → x ≡ n → (o : ℕ) → Among o l → (x : ℕ) × (x < n) × R o x
      other x r e o p =
          let w = h o (inr p) in
          (w.0, below w.0 w.1 w.2 (ℕ_discrete w.0 n), w.2)
        where
          below : (z : ℕ) → z < suc n → R o z → Dec (z ≡ n) → z < n
          below z lt s (yes q) = absurd (d.0 o p (one y o n (subst (R y) e r) (subst (R o) q s)))
          below z lt s (no ne) = omega arith

      go : ((x : ℕ) × (x < suc n) × R y x) → Thinned R n l → Thinned R n (y ∷ l)
      go w t = by (ℕ_discrete w.0 n)
        where
          by : Dec (w.0 ≡ n) → Thinned R n (y ∷ l)
          by (yes e) = record { rest = l; distinct = d.1; part = λ o p. inr p; hole = other w.0 w.2 e; shorter = omega arith }
          by (no ne) = record {
            rest = y ∷ t.rest;
            distinct = (λ o p. d.0 o (t.part o p), t.distinct);
            part = λ o p. ⊎_elim (λ e. inl e) (λ q. inr (t.part o q)) p;
            hole = λ o p. ⊎_elim (λ e. (w.0, omega (arith, w.1), subst (λ z. R z w.0) (sym e) w.2)) (λ q. t.hole o q) p;
            shorter = omega (arith, t.shorter);
          }

  -- one hole after the other
  pub pigeons : (n : ℕ) (l : List ℕ) → Distinct l → ((o : ℕ) → Among o l → (x : ℕ) × (x < n) × R o x) → length l ≤ n
  pigeons zero [] d h = omega arith
  pigeons zero (y ∷ l) d h = absurd (omega (arith, (h y (inl refl)).1))
  pigeons (suc n) l d h =
      let t = thin n l d h in
      omega (arith, t.shorter, pigeons n t.rest t.distinct t.hole)
