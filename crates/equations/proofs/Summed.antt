-- The two sums from pick to pick: of sections by falling length, as many are taken as X and X + 1 go.
use Prim.Native.Nat.{ℕ, zero, suc, ◌+◌, ◌-◌, ◌*◌, min, ◌≤◌, ◌<◌}
use mathlib.Core.Path.{◌≡◌, refl, sym, ap, ap₂, ◌∙◌}
use mathlib.Core.Bool.{cond}
use native.Mathlib.Nat.{mul_comm}
use native.Mathlib.Decide.{ℕ_discrete, dec_le}
use native.Mathlib.Omega.{arith}
use lib.Dec.{leb}
use Rattle.searches.specs.Indexed.{sum_to}
use Rattle.searches.proofs.Sums.{sum_to_none, sum_to_more, sum_to_same, sum_to_add, sum_to_alike, sum_to_first, sum_to_grows, sum_to_most}
use Rattle.equations.specs.declared.picks.Pick.{Pick}
use Rattle.equations.specs.declared.picks.Tally.{Tally}
use Rattle.equations.specs.declared.picks.Sums.{Sums}
use Rattle.equations.specs.Bag.{bag_to, sum_of_largest}
use Rattle.equations.specs.Picking.{tallied, Small}
use Rattle.equations.proofs.Layers.{part_yes, part_no, reach, bag_layers}

-- Σ(n) of the first j, none longer than m, by layers
abbrev layers : (ℕ → ℕ) → (ℕ → ℕ) → ℕ → ℕ → ℕ → ℕ
layers lengths times m n j = sum_to (λ y. min n (reach j lengths times (suc y))) m

-- what counts up to a height
steps : (d a m : ℕ) → a ≤ m → sum_to (λ y. cond (leb (suc y) a) d 0) m ≡ d * a
steps d a m le =
    sum_to_first (λ y. d) (λ y. cond (leb (suc y) a) d 0) a m le (λ y p. part_yes (suc y) a d p) (λ y p q. part_no (suc y) a d (omega arith))
    ∙ sum_to_alike (λ y. d) a d (λ y p. refl) ∙ mul_comm a d

module _ (lengths times : ℕ → ℕ) (m : ℕ) where
  -- how many of the first j reach a height that all of them reach
  reach_all : (j y : ℕ) → ((i : ℕ) → i < j → y ≤ lengths i) → reach j lengths times y ≡ sum_to times j
  reach_all j y h = sum_to_same (λ i. cond (leb y (lengths i)) (times i) 0) times j (λ i p. part_yes y (lengths i) (times i) (h i p))

  -- one more, not longer than any before
  layers_next : (n j : ℕ) → ((i : ℕ) → i < j → lengths j ≤ lengths i) → lengths j ≤ m
      → layers lengths times m n (j + 1) ≡ layers lengths times m n j + (min n (sum_to times j + times j) - min n (sum_to times j)) * lengths j
  layers_next n j falls short =
      sum_to_same (λ y. min n (reach (j + 1) lengths times (suc y))) (λ y. min n (reach j lengths times (suc y)) + cond (leb (suc y) (lengths j)) gain 0) m
      (λ y p. each y (dec_le (suc y) (lengths j)))
      ∙ sum_to_add (λ y. min n (reach j lengths times (suc y))) (λ y. cond (leb (suc y) (lengths j)) gain 0) m
      ∙ ap (λ (z : ℕ). layers lengths times m n j + z) (steps gain (lengths j) m short)
    where
      gain : ℕ
      gain = min n (sum_to times j + times j) - min n (sum_to times j)

      more : (y : ℕ) → reach (j + 1) lengths times y ≡ reach j lengths times y + cond (leb y (lengths j)) (times j) 0
      more y = sum_to_more (λ i. cond (leb y (lengths i)) (times i) 0) j

      each : (y : ℕ) → Dec (suc y ≤ lengths j)
          → min n (reach (j + 1) lengths times (suc y)) ≡ min n (reach j lengths times (suc y)) + cond (leb (suc y) (lengths j)) gain 0
      each y (yes p) =
          omega (
            arith,
            more (suc y),
            reach_all j (suc y) (λ i q. omega (arith, falls i q)),
            part_yes (suc y) (lengths j) (times j) p,
            part_yes (suc y) (lengths j) gain p,
          )
      each y (no p) =
          omega (arith, more (suc y), part_no (suc y) (lengths j) (times j) (omega arith), part_no (suc y) (lengths j) gain (omega arith))

  -- once n are taken, more change nothing
  layers_enough : (n j d : ℕ) → ((i k : ℕ) → i ≤ k → k < j + d → lengths k ≤ lengths i) → ((i : ℕ) → i < j + d → lengths i ≤ m) → n ≤ sum_to times j
      → layers lengths times m n (j + d) ≡ layers lengths times m n j
  layers_enough n j zero falls short enough = let z : j + 0 ≡ j = omega arith in rw z
  layers_enough n j (suc d) falls short enough =
      let z : j + suc d ≡ j + d + 1 = omega arith in
      let grown = sum_to_grows times j (j + d) (omega arith) in
      let gain : min n (sum_to times (j + d) + times (j + d)) - min n (sum_to times (j + d)) ≡ 0 = omega arith in
      rw z (omega (
        arith,
        rw gain at (layers_next n (j + d) (λ i p. falls i (j + d) (omega arith) (omega arith)) (short (j + d) (omega arith))),
        layers_enough n j d (λ i k p q. falls i k p (omega arith)) (λ i p. short i (omega arith)) enough,
      ))

abbrev pair : ℕ → ℕ → Sums
pair a b = record { less = a; more = b }

-- with the first j taken
pub record Summing (lengths times : ℕ → ℕ) (x j : ℕ) (a : Tally) : Type 0 where
  pub count : a.taken ≡ sum_to times j
  pub less_is : a.less ≡ layers lengths times 1000000 x j
  pub more_is : a.more ≡ layers lengths times 1000000 (x + 1) j

module _ (lengths times : ℕ → ℕ) (x m : ℕ) (falls : (i k : ℕ) → i ≤ k → k < m → lengths k ≤ lengths i) (short : (i : ℕ) → i < m → lengths i ≤ 1000000) where
  -- nothing is taken yet
  pub summing_start : Summing lengths times x 0 (record { taken = 0; less = 0; more = 0 })
  summing_start = record { count = sym (sum_to_none times 0 refl); less_is = nothing x; more_is = nothing (x + 1) }
    where
      nothing : (n : ℕ) → 0 ≡ layers lengths times 1000000 n 0
      nothing n =
          omega (
            arith,
            sum_to_alike (λ y. min n (reach 0 lengths times (suc y))) 1000000 0
                (λ y p. omega (arith, sum_to_none (λ i. cond (leb (suc y) (lengths i)) (times i) 0) 0 refl)),
          )

  module _ (j : ℕ) (a : Tally) (g : Summing lengths times x j a) where
    -- the numbers stay small
    pub summing_small : (p : Pick) → x ≤ 64 → a.taken ≤ x → p.times ≤ 510000000 → p.length ≤ 1000000 → Small a x p
    summing_small p few left t l = record {
      sleeps = few;
      taken = left;
      times = t;
      length = l;
      less = omega (arith, g.less_is, sum_to_most (λ y. min x (reach j lengths times (suc y))) 1000000 x (λ y q. omega arith));
      more = omega (arith, g.more_is, sum_to_most (λ y. min (x + 1) (reach j lengths times (suc y))) 1000000 (x + 1) (λ y q. omega arith));
    }

    -- the next is taken
    pub summing_next : (p : Pick) → j < m → a.taken ≤ x → p.length ≡ lengths j → p.times ≡ times j → Summing lengths times x (j + 1) (tallied x a p)
    summing_next p l left el et = record {
      count = omega (arith, g.count, sum_to_more times j);
      less_is = omega (arith, g.less_is, layers_next lengths times 1000000 x j (λ i q. falls i j (omega arith) l) (short j l), gain x (omega arith));
      more_is = omega (arith, g.more_is, layers_next lengths times 1000000 (x + 1) j (λ i q. falls i j (omega arith) l) (short j l), gain (x + 1) (omega arith));
    }
      where
        gain : (n : ℕ) → a.taken ≤ n → (min n (a.taken + p.times) - a.taken) * p.length ≡ (min n (sum_to times j + times j) - min n (sum_to times j)) * lengths j
        gain n le = ap₂ ◌*◌ (omega (arith, g.count)) el

    -- all are taken, or enough
    pub summing_end : j ≤ m → (j < m → x < a.taken)
        → pair a.less a.more ≡ pair (sum_of_largest x (bag_to m lengths times)) (sum_of_largest (x + 1) (bag_to m lengths times))
    summing_end le done = ap₂ pair (g.less_is ∙ whole x (omega arith)) (g.more_is ∙ whole (x + 1) (omega arith))
      where
        rest : j + (m - j) ≡ m
        rest = omega arith

        whole : (n : ℕ) → n ≤ x + 1 → layers lengths times 1000000 n j ≡ sum_of_largest n (bag_to m lengths times)
        whole n few = go (ℕ_discrete j m) ∙ sym (bag_layers 1000000 n m lengths times short)
          where
            go : Dec (j ≡ m) → layers lengths times 1000000 n j ≡ layers lengths times 1000000 n m
            go (yes e) = ap (layers lengths times 1000000 n) e
            go (no d) =
                sym (layers_enough lengths times 1000000 n j (m - j) (λ i k p q. falls i k p (omega arith)) (λ i p. short i (omega arith))
                (omega (arith, g.count, done (omega arith)))) ∙ ap (layers lengths times 1000000 n) rest
