-- The right sides of a table rise with t and with the vector, and are nowhere below C + S: its equations are a lawful system.
use Prim.Native.Nat.{ℕ, ◌+◌, ◌-◌, ◌*◌, ◌≤◌, ◌<◌}
use mathlib.Core.Bool.{Bool, true, false, cond, ◌&&◌}
use mathlib.Core.List.{List}
use native.Mathlib.Nat.{le_refl, mul-le-mul_left, mul-le-mul_right}
use native.Mathlib.Omega.{arith}
use lib.Dec.{ltb, leb}
use Rattle.searches.specs.Searches.{largest}
use Rattle.searches.proofs.Searching.{largest_reaches}
use Rattle.searches.proofs.Sums.{sum_to_mono}
use Rattle.searches.proofs.Indexed.{length_every}
use Rattle.rounds.specs.Vector.{at, ◌⊑◌}
use Rattle.rounds.specs.System.{Lawful}
use Rattle.equations.specs.Counting.{ceil}
use Rattle.equations.specs.Bag.{sum_of_largest}
use Rattle.equations.specs.View.{View}
use Rattle.equations.specs.Equations.{Part, repeats, bag, blocking, addition, additions, middle, reaches, system_with, system_of}
use Rattle.equations.proofs.Counting.{ceil_mono}
use Rattle.equations.proofs.Layers.{part_mono, bag_mono}

-- a part of a right side that rises with the vector and with t
abbrev pub Rises : Part → Type 0
Rises B = (i : ℕ) (v w : List ℕ) (t u : ℕ) → v ⊑ w → t ≤ u → B i v t ≤ B i w u

-- whatever blocking and additions rise make a lawful system
pub lawful_with : (W : View) (B A : Part) → ((i : ℕ) → i < W.tasks → 1 ≤ (W.task i).run) → Rises B → Rises A → Lawful (system_with W B A)
lawful_with W B A pos b a =
    record {
      positive = λ i p. omega (arith, pos i (omega (arith, length_every (λ i. (W.task i).deadline) W.tasks 0)));
      above = λ i p v t. omega arith;
      rises = λ i p v w t u le h. omega (arith, b i v w t u le h, a i v w t u le h);
    }

module _ (W : View) where
  repeats_rise : (i : ℕ) (v w : List ℕ) (t u : ℕ) → v ⊑ w → t ≤ u → (k : ℕ) → repeats W i v t k ≤ repeats W i w u k
  repeats_rise i v w t u le h k =
      part_mono (middle W i (W.usage k).priority && reaches W i k) _ _
      (mul-le-mul_left (W.usage k).times
      (ceil_mono (t + at v (W.user k)) (u + at w (W.user k)) (W.task (W.user k)).period (omega (arith, le (W.user k)))))

  pub largest_rises : (x : ℕ) → Rises (λ i v t. sum_of_largest x (bag W i v t))
  largest_rises x i v w t u le h =
      bag_mono (largest (λ k. (W.usage k).length) W.uses) x W.uses (λ k. (W.usage k).length) (repeats W i v t) (repeats W i w u)
      (λ j p. largest_reaches (λ k. (W.usage k).length) W.uses j p (le_refl (W.usage j).length)) (λ k p. repeats_rise i v w t u le h k)

  pub blocking_rises : Rises (blocking W)
  unfolding blocking
  blocking_rises i v w t u le h =
      let x = (W.task i).sleeps in
      omega (arith, largest_rises (x + 1) i v w t u le h, largest_rises x i v w t u le h)

  addition_rises : (j i : ℕ) (v w : List ℕ) (t u : ℕ) → v ⊑ w → t ≤ u → addition W i v t j ≤ addition W i w u j
  addition_rises j i v w t u le h = go (leb (W.task i).priority (W.setting j))
    where
      go : (b : Bool)
          → cond b (ceil t (W.task j).period * ((W.task j).run + (W.task j).sleep)) (ceil (t + at v j - (W.task j).run) (W.task j).period * (W.task j).run)
          ≤ cond b (ceil u (W.task j).period * ((W.task j).run + (W.task j).sleep)) (ceil (u + at w j - (W.task j).run) (W.task j).period * (W.task j).run)
      go true = mul-le-mul_right ((W.task j).run + (W.task j).sleep) (ceil_mono t u (W.task j).period h)
      go false =
          mul-le-mul_right (W.task j).run
          (ceil_mono (t + at v j - (W.task j).run) (u + at w j - (W.task j).run) (W.task j).period (omega (arith, le j)))

  pub additions_rise : Rises (additions W)
  unfolding additions
  additions_rise i v w t u le h =
      sum_to_mono _ _ W.tasks (λ j p. part_mono (ltb (W.task i).priority (W.task j).priority) _ _ (addition_rises j i v w t u le h))

  pub lawful : ((i : ℕ) → i < W.tasks → 1 ≤ (W.task i).run) → Lawful (system_of W)
  lawful pos = lawful_with W (blocking W) (additions W) pos blocking_rises additions_rise
