-- What the stores leave in an array.
use Rattle.std.specs.Prelude.{◌≡◌, ℕ, suc, ◌<◌, ◌≤◌, Bool, true, cond, ◌&&◌, List, length, ◌==◌, ◌≢◌, nat_lt, slice_index, slice_set}
use Rattle.searches.specs.Searches.{Place, nowhere, at}
use Rattle.protocol.specs.Acting.{one_more}
use Rattle.arrays.specs.View.{count_of}

-- the started marks with that at a place set
abbrev pub started_at : List Bool → Place → List Bool
started_at l nowhere = l
started_at l (at i) = slice_set l i true

-- The counts of the task at the place i are 0, and all others as they were.
pub record Cleared (a : List ℕ) (i : ℕ) (b : List ℕ) : Type 0 where
  pub long : length b ≡ length a
  pub here : count_of b i ≡ (λ r. 0)
  pub others : (k : ℕ) → (k ≢ i) → count_of b k ≡ count_of a k

-- The task at the place i has one more for the resource r, and all others are as they were.
pub record Counted (a : List ℕ) (i r : ℕ) (b : List ℕ) : Type 0 where
  pub long : length b ≡ length a
  pub here : count_of b i ≡ one_more (count_of a i) r
  pub others : (k : ℕ) → (k ≢ i) → count_of b k ≡ count_of a k

-- The numbers of n slots without that at k, where it is one of them: the later ones move down, and the last is 0.
pub record Removed (a : List ℕ) (k n : ℕ) (b : List ℕ) : Type 0 where
  pub long : length b ≡ length a
  pub before : (j : ℕ) → j < k → slice_index b j ≡ slice_index a j
  pub after : (j : ℕ) → k ≤ j → suc j < n → slice_index b j ≡ slice_index a (suc j)
  pub last : (j : ℕ) → k ≤ j → suc j ≡ n → slice_index b j ≡ 0
  pub past : (j : ℕ) → n ≤ j → slice_index b j ≡ slice_index a j

-- the number n of a state, but ready, 1, where it says waiting and the priority p is above the ceiling c
abbrev pub woken_number : ℕ → ℕ → ℕ → ℕ
woken_number c p n = cond (n == 2 && nat_lt c p) 1 n

-- The waiting jobs above the ceiling c are ready at the first n places, and all else is as it was.
pub record Woken (a priorities : List ℕ) (c n : ℕ) (b : List ℕ) : Type 0 where
  pub long : length b ≡ length a
  pub before : (j : ℕ) → j < n → slice_index b j ≡ woken_number c (slice_index priorities j) (slice_index a j)
  pub past : (j : ℕ) → n ≤ j → slice_index b j ≡ slice_index a j
