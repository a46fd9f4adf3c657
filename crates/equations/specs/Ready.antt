-- What the code is handed: the bytes of an accepted table, settings, and a vector on the way. For private functions: no promise to a caller.
use Rattle.std.specs.Prelude.{ℕ, ◌+◌, ◌≤◌, ◌<◌, ◌≡◌, Bool, cond, ◌&&◌, List, leb, length}
use Rattle.searches.specs.Searches.{largest}
use Rattle.table.specs.declared.Shape.{Shape}
use Rattle.table.specs.WellFormed.{task_of, use_of}
use Rattle.rounds.specs.Vector.{at as value}
use Rattle.equations.specs.declared.At.{At}
use Rattle.equations.specs.declared.Query.{Query}
use Rattle.equations.specs.View.{View, view_of}
use Rattle.equations.specs.Equations.{middle, reaches, extra}
use Rattle.equations.specs.Keeping.{Kept, word_of}

-- a vector with a value for each task of the table, none above a million or below its task's C, and a task with a length up to a million
pub record Ready (s : List ℕ) (h : Shape) (v : List ℕ) (at : At) : Type 0 where
  pub sized : length v ≡ h.tasks
  pub most : (j : ℕ) → j < h.tasks → value v j ≤ 1000000
  pub floor : (j : ℕ) → j < h.tasks → (task_of s j).run ≤ value v j
  pub task : at.task < h.tasks
  pub length_most : at.length ≤ 1000000

-- r uses have a priority of at least p, and they stand first
pub record UsesFrom (s : List ℕ) (h : Shape) (p r : ℕ) : Type 0 where
  pub within : r ≤ h.uses
  pub before : (k : ℕ) → k < r → p ≤ (use_of s h.uses_at k).priority
  pub after : (k : ℕ) → r ≤ k → k < h.uses → (use_of s h.uses_at k).priority < p

-- the length of use k, where its resource's ceiling, as listed, is not below p, else 0; the uses start at a place
abbrev pub reaching_length : List ℕ → List ℕ → ℕ → ℕ → ℕ → ℕ
reaching_length s ceilings start p k = cond (leb p (value ceilings (use_of s start k).resource)) (use_of s start k).length 0

-- r is the largest of these from the first to before use n, those before the first counting as 0
abbrev pub Longest : List ℕ → List ℕ → ℕ → ℕ → ℕ → ℕ → ℕ → Type 0
Longest s ceilings start p first n r =
    (f : ℕ → ℕ) → ((k : ℕ) → k < first → f k ≡ 0) → ((k : ℕ) → first ≤ k → k < n → f k ≡ reaching_length s ceilings start p k) → r ≡ largest f n

-- whether use k can block i: it is of a task of i's middle set, and its ceiling reaches
abbrev pub blocks : View → ℕ → ℕ → Bool
blocks W i k = middle W i (W.usage k).priority && reaches W i k

-- q is what there is to know once of the task at place i, under the settings, and of the uses that can block it the longest are kept in n words
pub record QueryIs (s : List ℕ) (h : Shape) (settings : List ℕ) (i : ℕ) (words : List ℕ) (n : ℕ) (q : Query) : Type 0 where
  pub task : q.task ≡ i
  pub sleeps : q.sleeps ≡ (task_of s i).sleeps
  pub kept : Kept (blocks (view_of s h settings) i) (word_of s h) h.uses ((task_of s i).sleeps + 1) words n
  pub extra : q.extra ≡ extra (view_of s h settings) i

-- what a right side is worked out of: a task's query with the kept uses, a vector on the way, a length
pub record Asking (s : List ℕ) (h : Shape) (settings v words : List ℕ) (n : ℕ) (q : Query) (t : ℕ) : Type 0 where
  pub query : QueryIs s h settings q.task words n q
  pub ready : Ready s h v (record { task = q.task; length = t })
