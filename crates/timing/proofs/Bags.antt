-- Blocks of ticks against a bag: blocks, each of some use and no longer than it, and no use taken more often than it is in the bag, have no more
-- ticks than the largest of the bag.
use Prim.Native.Nat.{ℕ, zero, suc, ◌+◌, min, ◌≤◌, ◌<◌}
use mathlib.Core.Path.{◌≡◌, refl, ap, ◌∙◌}
use mathlib.Core.Logic.{inl, inr}
use mathlib.Core.Bool.{Bool, true, false, cond, ◌&&◌}
use mathlib.Core.List.{List, [], ◌∷◌}
use native.Mathlib.Nat.{le_refl}
use native.Mathlib.Omega.{arith}
use native.Mathlib.Decide.{dec_lt}
use lib.Dec.{eqb, ltb, leb}
use lib.ListN.{length}
use borrow.Author.Tests.{eq-eqb, lt-ltb, leb-true}
use Rattle.searches.specs.Searches.{only, largest}
use Rattle.searches.specs.Indexed.{sum_to}
use Rattle.searches.proofs.Sums.{sum_to_same, sum_to_mono, sum_to_most, sum_to_alike, sum_to_at, sum_to_swap}
use Rattle.searches.proofs.Searching.{largest_reaches}
use Rattle.searches.proofs.Testing.{true_and}
use Rattle.equations.specs.Bag.{bag_to, sum_of_largest}
use Rattle.equations.proofs.Layers.{hit, reach, part_yes, part_most, hit_layers, bag_layers}
use Rattle.protocol.specs.ShortWaits.{Among, Distinct}
use Rattle.protocol.proofs.Pigeons.{pigeons}

-- ---- those that pass a test

-- the numbers below n that pass
unfoldable passing : (ℕ → Bool) → ℕ → List ℕ
passing test zero = []
passing test (suc n) = let rest = passing test n in cond (test n) (n ∷ rest) rest

module _ (test : ℕ → Bool) where
  -- each is below n and passes
  passes : (n o : ℕ) → Among o (passing test n) → (o < n) × (test o ≡ true)
  unfolding passing
  passes zero o p = absurd p
  passes (suc n) o p = go (test n) refl p (passes n o)
    where
      go : (b : Bool) → test n ≡ b → Among o (cond b (n ∷ passing test n) (passing test n))
          → (Among o (passing test n) → (o < n) × (test o ≡ true)) → (o < suc n) × (test o ≡ true)
      go true e (inl q) more = (omega (arith, q), ap test q ∙ e)
      go true e (inr q) more = let w = more q in (omega (arith, w.0), w.1)
      go false e q more = let w = more q in (omega (arith, w.0), w.1)

  -- they are different
  different : (n : ℕ) → Distinct (passing test n)
  unfolding passing
  different zero = tt
  different (suc n) = go (test n) (different n)
    where
      go : (b : Bool) → Distinct (passing test n) → Distinct (cond b (n ∷ passing test n) (passing test n))
      go true more = (λ y p e. omega (arith, (passes n y p).0), more)
      go false more = more

  -- and as many as are counted
  as_many : (n : ℕ) → sum_to (λ x. only (test x) 1) n ≡ length (passing test n)
  unfolding passing sum_to
  as_many zero = refl
  as_many (suc n) = go (test n) (as_many n)
    where
      go : (b : Bool) → sum_to (λ x. only (test x) 1) n ≡ length (passing test n)
          → sum_to (λ x. only (test x) 1) n + only b 1 ≡ length (cond b (n ∷ passing test n) (passing test n))
      go true more = omega arith
      go false more = omega arith

  -- so, each with a number below k of its own, they are k at most
  pub few_pass : (n k : ℕ) (R : ℕ → ℕ → Type 0) → ((x : ℕ) → test x ≡ true → (y : ℕ) × (y < k) × R x y)
      → ((x z y : ℕ) → R x y → R z y → x ≡ z) → sum_to (λ x. only (test x) 1) n ≤ k
  few_pass n k R choose once =
      omega (arith, as_many n, pigeons R once k (passing test n) (different n) (λ o p. choose o (passes n o p).1))

-- ---- blocks

module _ (n k : ℕ) (size kin : ℕ → ℕ) (length repeats : ℕ → ℕ) where
  -- whether the block x is of the use j
  abbrev pub takes : ℕ → ℕ → Bool
  takes j x = ltb 0 (size x) && eqb (kin x) j

  -- the blocks have no more ticks than the n largest of the bag
  pub blocks_fit : ((x : ℕ) → x < n → 0 < size x → (kin x < k) × (size x ≤ length (kin x)))
      → ((j : ℕ) → j < k → sum_to (λ x. only (takes j x) 1) n ≤ repeats j) → sum_to size n ≤ sum_of_largest n (bag_to k length repeats)
  blocks_fit fit few =
      omega (
        arith,
        sum_to_same size (λ x. sum_to (λ y. hit (suc y) (size x)) m) n (λ x lt. omega (arith, hit_layers m (size x), within x lt (dec_lt 0 (size x)))),
        sum_to_swap (λ y x. hit (suc y) (size x)) m n,
        sum_to_mono (λ y. sum_to (λ x. hit (suc y) (size x)) n) (λ y. min n (reach k length repeats (suc y))) m
            (λ y lt. omega (arith, all y, reached y)),
        bag_layers m n k length repeats (λ j lt. largest_reaches length k j lt (le_refl (length j))),
      )
    where
      -- the longest use
      m : ℕ
      m = largest length k

      -- no block is longer than all uses
      within : (x : ℕ) → x < n → Dec (0 < size x) → size x ≤ m
      within x lt (yes p) = let w = fit x lt p in largest_reaches length k (kin x) w.0 w.1
      within x lt (no p) = omega arith

      -- a layer takes n blocks at most
      all : (y : ℕ) → sum_to (λ x. hit (suc y) (size x)) n ≤ n
      all y = omega (arith, sum_to_most (λ x. hit (suc y) (size x)) n 1 (λ x lt. part_most (leb (suc y) (size x)) 1))

      -- 1 where the block x is of the use j, which reaches y
      share : ℕ → ℕ → ℕ → ℕ
      share y j x = cond (leb (suc y) (length j)) (only (takes j x) 1) 0

      -- a block that reaches y is a share of its use
      some : (y x : ℕ) → x < n → (b : Bool) → leb (suc y) (size x) ≡ b → cond b 1 0 ≤ sum_to (λ j. share y j x) k
      some y x lt true e =
          let p : y < size x = leb-true (suc y) (size x) e in
          let w = fit x lt (omega arith) in
          let j = kin x in
          let o : takes j x ≡ true = true_and (lt-ltb 0 (size x) (omega arith)) (eq-eqb j j refl) in
          omega (
            arith,
            sum_to_at (λ j. share y j x) k j w.0,
            part_yes (suc y) (length j) (only (takes j x) 1) (omega (arith, w.1)),
            ap (λ b. only b 1) o,
          )
      some y x lt false e = omega arith

      -- the shares of a use are no more than its repeats
      shares : (j : ℕ) → j < k → (b : Bool) → sum_to (λ x. cond b (only (takes j x) 1) 0) n ≤ cond b (repeats j) 0
      shares j lt true = few j lt
      shares j lt false = omega (arith, sum_to_alike (λ x. 0) n 0 (λ x lt. refl))

      -- a layer takes no more blocks than lengths in the bag reach it
      reached : (y : ℕ) → sum_to (λ x. hit (suc y) (size x)) n ≤ reach k length repeats (suc y)
      reached y =
          omega (
            arith,
            sum_to_mono (λ x. hit (suc y) (size x)) (λ x. sum_to (λ j. share y j x) k) n (λ x lt. some y x lt (leb (suc y) (size x)) refl),
            sum_to_swap (share y) k n,
            sum_to_mono (λ j. sum_to (share y j) n) (λ j. cond (leb (suc y) (length j)) (repeats j) 0) k
                (λ j lt. shares j lt (leb (suc y) (length j))),
          )
