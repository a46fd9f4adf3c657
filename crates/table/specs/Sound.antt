-- What is so of each walk that can have come from the bytes, and of a step of it. For the proofs of private functions: no promise to a caller.
use Rattle.std.specs.Prelude.{ℕ, ◌+◌, ◌*◌, ◌^◌, ◌≤◌, ◌<◌, ◌≡◌, List, length, Result, Ok, Err}
use Rattle.table.specs.declared.Refusal.{Refusal}
use Rattle.table.specs.declared.walk.Walk.{Walk}

-- the walk stays within the bytes, and its numbers within their types
pub record Sound (s : List ℕ) (w : Walk) : Type 0 where
  pub within : w.at ≤ length s
  pub behind : 20 * w.tasks + 8 * w.uses ≤ w.at
  pub user : w.user ≤ w.tasks
  pub small : w.sum < 2 ^ 32

-- the walk after a step is such a walk again, and further on
abbrev pub sound_next : List ℕ → Walk → Result Walk Refusal → Type 0
sound_next s w (Ok n) = Sound s n × (w.at < n.at)
sound_next s w (Err refusal) = Unit

-- a step r is the one that is meant, and leaves such a walk
pub record Stepped (s : List ℕ) (w : Walk) (meant r : Result Walk Refusal) : Type 0 where
  pub same : r ≡ meant
  pub sound : sound_next s w r
