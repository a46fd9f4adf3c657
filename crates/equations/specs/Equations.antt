-- The equations: for the task at place i under a vector v of values, the right side at t.
use Rattle.std.specs.Prelude.{ℕ, ◌+◌, ◌-◌, ◌*◌, max, Bool, cond, ◌&&◌, List, ltb, leb, eqb}
use Rattle.searches.specs.Searches.{largest}
use Rattle.searches.specs.Indexed.{sum_to, every}
use Rattle.rounds.specs.Vector.{at}
use Rattle.rounds.specs.System.{System}
use Rattle.equations.specs.Counting.{ceil}
use Rattle.equations.specs.Bag.{bag_to, sum_of_largest}
use Rattle.equations.specs.View.{View}

-- the ceiling of a resource: the highest priority among tasks with a use of it
unfoldable pub ceiling : View → ℕ → ℕ
ceiling W r = largest (λ k. cond (eqb (W.usage k).resource r) (W.usage k).priority 0) W.uses

-- whether use k is of a resource with a ceiling not below the priority of i
abbrev pub reaches : View → ℕ → ℕ → Bool
reaches W i k = leb (W.task i).priority (ceiling W (W.usage k).resource)

-- whether a lower task, by its priority q, is in the middle set of i: above i's system setting; or outside it
abbrev pub middle : View → ℕ → ℕ → Bool
middle W i q = ltb q (W.task i).priority && ltb (W.setting i) q

abbrev pub outside : View → ℕ → ℕ → Bool
outside W i q = ltb q (W.task i).priority && leb q (W.setting i)

-- how often the section bag of i for length t holds the length of use k: N times ⌈(t + V_j) / T_j⌉ where its task j is in the middle set
abbrev pub repeats : View → ℕ → List ℕ → ℕ → ℕ → ℕ
repeats W i v t k =
    cond (middle W i (W.usage k).priority && reaches W i k)
    ((W.usage k).times * ceil (t + at v (W.user k)) (W.task (W.user k)).period) 0

-- the section bag of i for length t
abbrev pub bag : View → ℕ → List ℕ → ℕ → List ℕ
bag W i v t = bag_to W.uses (λ k. (W.usage k).length) (repeats W i v t)

-- B0: the largest L among lower tasks outside the middle set; 0 if there is none
unfoldable pub extra : View → ℕ → ℕ
extra W i = largest (λ k. cond (outside W i (W.usage k).priority && reaches W i k) (W.usage k).length 0) W.uses

-- blocking: the larger of Σ(X + 1) and B0 + Σ(X)
unfoldable pub blocking : View → ℕ → List ℕ → ℕ → ℕ
blocking W i v t =
    let x = (W.task i).sleeps in
    max (sum_of_largest (x + 1) (bag W i v t)) (extra W i + sum_of_largest x (bag W i v t))

-- what a higher task j adds: with a setting not below the priority of i its sleep is charged, else its jitter
abbrev pub addition : View → ℕ → List ℕ → ℕ → ℕ → ℕ
addition W i v t j =
    cond (leb (W.task i).priority (W.setting j))
    (ceil t (W.task j).period * ((W.task j).run + (W.task j).sleep))
    (ceil (t + at v j - (W.task j).run) (W.task j).period * (W.task j).run)

-- the additions of all higher tasks
unfoldable pub additions : View → ℕ → List ℕ → ℕ → ℕ
additions W i v t = sum_to (λ j. cond (ltb (W.task i).priority (W.task j).priority) (addition W i v t j) 0) W.tasks

-- a part of a right side, by place, vector and t
abbrev pub Part : Type 0
Part = ℕ → List ℕ → ℕ → ℕ

-- where t starts: C + S
abbrev pub start : View → ℕ → ℕ
start W i = (W.task i).run + (W.task i).sleep

-- C + S, a blocking and some additions
abbrev pub side_with : View → Part → Part → Part
side_with W block add i v t = start W i + block i v t + add i v t

-- the system of equations with that blocking and those additions
abbrev pub system_with : View → Part → Part → System
system_with W block add = record {
  deadlines = every (λ i. (W.task i).deadline) W.tasks 0;
  start = start W;
  side = side_with W block add;
}

-- the right side
abbrev pub right_side : View → Part
right_side W = side_with W (blocking W) (additions W)

-- the system of equations of a table
abbrev pub system_of : View → System
system_of W = system_with W (blocking W) (additions W)
