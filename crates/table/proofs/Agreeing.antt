-- Two inputs that have one front have the same records in it.
use Prim.Native.Nat.{ℕ, zero, suc, ◌+◌, ◌*◌, ◌≤◌, ◌<◌}
use mathlib.Core.Path.{◌≡◌, refl}
use mathlib.Core.List.{List}
use lib.ListN.{get_or}
use native.Mathlib.Omega.{arith}
use Rattle.table.specs.Fields.{word_at, task_at, use_at}
use Rattle.table.specs.Rules.{place_from}

module _ (s r : List ℕ) (end : ℕ) (same : (i : ℕ) → i < end → get_or r i 0 ≡ get_or s i 0) where
  -- a word of the front is the same
  pub word_same : (i : ℕ) → i + 4 ≤ end → word_at r i ≡ word_at s i
  unfolding word_at
  word_same i h = rw (same i (omega arith), same (i + 1) (omega arith), same (i + 2) (omega arith), same (i + 3) (omega arith))

  -- and a task
  pub task_same : (i : ℕ) → i + 20 ≤ end → task_at r i ≡ task_at s i
  task_same i h = λ k. record {
    priority = same (i + 1) (omega arith) k;
    setting = same (i + 2) (omega arith) k;
    sleeps = same (i + 3) (omega arith) k;
    run = word_same (i + 4) (omega arith) k;
    sleep = word_same (i + 8) (omega arith) k;
    deadline = word_same (i + 12) (omega arith) k;
    period = word_same (i + 16) (omega arith) k;
  }

  -- and a use
  pub use_same : (i : ℕ) → i + 8 ≤ end → use_at r i ≡ use_at s i
  use_same i h = λ k. record {
    priority = same (i + 1) (omega arith) k;
    resource = same (i + 2) (omega arith) k;
    times = same (i + 3) (omega arith) k;
    length = word_same (i + 4) (omega arith) k;
  }

  -- and the place of a priority among the tasks of the front
  pub place_same : (c i p : ℕ) → 20 * (i + c) ≤ end → place_from c r i p ≡ place_from c s i p
  unfolding place_from
  place_same zero i p h = refl
  place_same (suc c) i p h = rw (same (20 * i + 1) (omega arith), place_same c (i + 1) p (omega arith))
