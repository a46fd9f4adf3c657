-- How the code finds Σ(X) and Σ(X + 1): it takes the kept uses one after the other, by falling length. For private functions: no promise to a caller.
use Rattle.std.specs.Prelude.{ℕ, ◌+◌, ◌-◌, ◌*◌, ◌/◌, ◌%◌, min, ◌≤◌, ◌<◌, List, get_or, length}
use Rattle.table.specs.WellFormed.{task_of}
use Rattle.equations.specs.declared.picks.Pick.{Pick}
use Rattle.equations.specs.declared.picks.Tally.{Tally}
use Rattle.equations.specs.declared.picks.Sums.{Sums}
use Rattle.equations.specs.Counting.{ceil}
use Rattle.equations.specs.Bag.{bag_to, sum_of_largest}
use Rattle.equations.specs.Keeping.{length_in, Falls}

-- a pick taken, as far as x and x + 1 go
abbrev pub tallied : ℕ → Tally → Pick → Tally
tallied x a p = record {
  taken = a.taken + p.times;
  less = a.less + (min x (a.taken + p.times) - a.taken) * p.length;
  more = a.more + (min (x + 1) (a.taken + p.times) - a.taken) * p.length;
}

-- of a kept use, N times the jobs of its task
unfoldable pub times_of : List ℕ → List ℕ → ℕ → ℕ → ℕ
times_of s v t w = w / 256 % 256 * ceil (t + get_or v (w % 256) 0) (task_of s (w % 256)).period

-- the length of the kept use i, and how often the bag has it
abbrev pub lengths_in : List ℕ → ℕ → ℕ
lengths_in kept i = length_in (get_or kept i 0)

abbrev pub times_in : List ℕ → List ℕ → List ℕ → ℕ → ℕ → ℕ
times_in s v kept t i = times_of s v t (get_or kept i 0)

-- Σ(x) and Σ(x + 1) of the bag of the first n
abbrev pub sums_of : List ℕ → List ℕ → List ℕ → ℕ → ℕ → ℕ → Sums
sums_of s v kept n x t =
    let bag = bag_to n (lengths_in kept) (times_in s v kept t) in
    record { less = sum_of_largest x bag; more = sum_of_largest (x + 1) bag }

-- a word whose task is one of n and has a value and a period, both small
pub record Timed (s v : List ℕ) (n t w : ℕ) : Type 0 where
  pub task : w % 256 < n
  pub place : w % 256 < length v
  pub small : t + get_or v (w % 256) 0 ≤ 2000000
  pub period : 1 ≤ (task_of s (w % 256)).period
  pub period_most : (task_of s (w % 256)).period ≤ 1000000

-- what the sums are found from: few words that fall, each of one of so many tasks and not too long
pub record Picking (s v kept : List ℕ) (tasks n x t : ℕ) : Type 0 where
  pub sleeps : x ≤ 64
  pub few : n ≤ 65
  pub falls : Falls kept n
  pub timed : (i : ℕ) → i < n → Timed s v tasks t (get_or kept i 0)
  pub short : (i : ℕ) → i < n → length_in (get_or kept i 0) ≤ 1000000

-- numbers that are small enough for one more pick
pub record Small (a : Tally) (x : ℕ) (p : Pick) : Type 0 where
  pub sleeps : x ≤ 64
  pub taken : a.taken ≤ x
  pub times : p.times ≤ 510000000
  pub length : p.length ≤ 1000000
  pub less : a.less ≤ 200000000
  pub more : a.more ≤ 200000000
