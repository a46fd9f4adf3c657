-- The last round: rounds that sweep come to one, it is the first that changes no value, and more fuel than reaches it changes nothing.
use Rattle.std.specs.Prelude.{◌≡◌}
use Rattle.std.proofs.Math.Path.{refl}
use Rattle.std.proofs.Common.{◌∙◌, le_refl, le_trans, arith}
use Prim.Native.Nat.{ℕ, zero, suc, ◌≤◌, ◌<◌}
use Rattle.rounds.specs.OnWay.{OnWay}
use Rattle.rounds.proofs.RoundLaws.{unchanged, differs, stays}
use Rattle.rounds.specs.Rounds.{Progress, last_from, last}
use Rattle.rounds.specs.Sweep.{Sweeps}
use Rattle.rounds.proofs.Sweep.{sweep_falls}
use Rattle.rounds.specs.System.{System}
use Rattle.rounds.specs.Vector.{sum}
use Rattle.rounds.specs.LastRound.{after, Reached}

module _ (R : Progress → Progress) where
  -- A round that changes no value is the last.
  pub last_here : (k : ℕ) (s : Progress) → (R s).vector ≡ s.vector → last_from R (suc k) s ≡ s
  unfolding last_from
  last_here k s q = rw (unchanged s (R s) q)

  -- A round that changes a value is followed by the rounds from there.
  pub last_later : (k : ℕ) (s : Progress) → ((R s).vector ≡ s.vector → ⊥) → last_from R (suc k) s ≡ last_from R k (R s)
  unfolding last_from
  last_later k s ne = rw (differs s (R s) ne)

  -- What outlasts every round holds where the last one begins.
  pub last_keeps : (P : Progress → Type 0) → ((s : Progress) → P s → P (R s)) → (k : ℕ) (s : Progress) → P s → P (last_from R k s)
  unfolding last_from
  last_keeps P step zero s p = p
  last_keeps P step (suc k) s p = go (stays s (R s)) (last_keeps P step k (R s) (step s p))
    where
      go : Dec ((R s).vector ≡ s.vector) → P (last_from R k (R s)) → P (last_from R (suc k) s)
      go (yes q) more = rw (last_here k s q) p
      go (no ne) more = rw (last_later k s ne) more

  -- Each round before the last changed a value.
  pub last_reached : (k : ℕ) (s : Progress) → Reached R s (last_from R k s)
  unfolding last_from after
  last_reached zero s = record { rounds = 0; reached = refl; changing = λ j l. absurd (omega arith) }
  last_reached (suc k) s = go (stays s (R s)) (last_reached k (R s))
    where
      changing : (r : Reached R (R s) (last_from R k (R s))) → ((R s).vector ≡ s.vector → ⊥)
          → (j : ℕ) → j < suc r.rounds → (after R (suc j) s).vector ≡ (after R j s).vector → ⊥
      changing r ne zero l = ne
      changing r ne (suc j) l = r.changing j (omega arith)

      go : Dec ((R s).vector ≡ s.vector) → Reached R (R s) (last_from R k (R s)) → Reached R s (last_from R (suc k) s)
      go (yes q) r = rw (last_here k s q) (record { rounds = 0; reached = refl; changing = λ j l. absurd (omega arith) })
      go (no ne) r =
          rw (last_later k s ne)
          (record { rounds = suc r.rounds; reached = r.reached; changing = changing r ne })

  -- Once the fuel reaches a round that changes no value, more fuel gives the same.
  pub last_more : (k m : ℕ) (s : Progress) → k ≤ m → (R (last_from R k s)).vector ≡ (last_from R k s).vector → last_from R m s ≡ last_from R k s
  unfolding last_from
  last_more zero zero s l q = refl
  last_more zero (suc m) s l q = last_here m s q
  last_more (suc k) zero s l q = absurd (omega arith)
  last_more (suc k) (suc m) s l q = go (stays s (R s)) (last_more k m (R s) (omega arith))
    where
      go : Dec ((R s).vector ≡ s.vector)
          → ((R (last_from R k (R s))).vector ≡ (last_from R k (R s)).vector → last_from R m (R s) ≡ last_from R k (R s))
          → last_from R (suc m) s ≡ last_from R (suc k) s
      go (yes p) more = rw (last_here k s p, last_here m s p)
      go (no ne) more = rw (last_later k s ne, last_later m s ne) (more (rw (last_later k s ne) at q))

  -- Where no round lowers the count, the first round's is no more than that after the last.
  pub last_grows : ((s : Progress) → s.evaluations ≤ (R s).evaluations) → (s : Progress) → (R s).evaluations ≤ (R (last R s)).evaluations
  last_grows grows s = go (stays s (R s))
    where
      go : Dec ((R s).vector ≡ s.vector) → (R s).evaluations ≤ (R (last R s)).evaluations
      go (yes q) = rw (last_here (sum s.vector) s q) (le_refl (R s).evaluations)
      go (no ne) =
          rw (last_later (sum s.vector) s ne)
          (last_keeps (λ x. (R s).evaluations ≤ (R x).evaluations) (λ x p. le_trans p (grows (R x))) (sum s.vector) (R s) (grows (R s)))

module _ (S : System) (R : Progress → Progress) (w : Sweeps S R) where
  -- Rounds that sweep end: fuel above the sum of the values reaches a round that changes none.
  pub last_ends : (k : ℕ) (s : Progress) → sum s.vector < k → OnWay S s.vector → (R (last_from R k s)).vector ≡ (last_from R k s).vector
  last_ends zero s l h = absurd (omega arith)
  last_ends (suc k) s l h = go (stays s (R s)) (last_ends k (R s))
    where
      go : Dec ((R s).vector ≡ s.vector)
          → (sum (R s).vector < k → OnWay S (R s).vector → (R (last_from R k (R s))).vector ≡ (last_from R k (R s)).vector)
          → (R (last_from R (suc k) s)).vector ≡ (last_from R (suc k) s).vector
      go (yes q) more = rw (last_here R k s q) q
      go (no ne) more =
          rw (last_later R k s ne)
          (more (omega (arith, sweep_falls S s.vector (R s).vector h (w s h) ne)) (w s h).keeps)

  -- Where the last round begins is still on the way.
  pub last_on_way : (k : ℕ) (s : Progress) → OnWay S s.vector → OnWay S (last_from R k s).vector
  last_on_way k s h = last_keeps R (λ x. OnWay S x.vector) (λ x p. (w x p).keeps) k s h

  -- After a round that changes a value, the last round is the last from there.
  pub last_again : (s : Progress) → OnWay S s.vector → ((R s).vector ≡ s.vector → ⊥) → last R s ≡ last R (R s)
  last_again s h ne =
      last_later R (sum s.vector) s ne
      ∙ last_more R (suc (sum (R s).vector)) (sum s.vector) (R s) (sweep_falls S s.vector (R s).vector h (w s h) ne)
      (last_ends (suc (sum (R s).vector)) (R s) (omega arith) (w s h).keeps)
