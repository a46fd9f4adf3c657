-- What the view of a scheduler doesn't show, and a call leaves as it should be.
use Rattle.std.specs.Prelude.{◌≡◌, ℕ, ◌≤◌, leb, get_or}
use Rattle.searches.specs.Searches.{only}
use Rattle.arrays.specs.View.{status_of}
use Rattle.scheduler.specs.declared.Scheduler.{Scheduler}
use Rattle.scheduler.specs.Replies.{number_for}

-- The rules of the tasks stay, a state's number changes with its status only, and of the slots past the open sections those that were open are 0.
pub record Beside (s t : Scheduler) : Type 0 where
  pub same : t.tasks ≡ s.tasks
  pub numbers : (k : ℕ) → get_or t.entries.states k 0 ≡ number_for (get_or s.entries.states k 0) (status_of (get_or t.entries.states k 0))
  pub places : (k : ℕ) → t.sections.count ≤ k → get_or t.sections.places k 0 ≡ only (leb s.sections.count k) (get_or s.sections.places k 0)
  pub resources : (k : ℕ) → t.sections.count ≤ k → get_or t.sections.resources k 0 ≡ only (leb s.sections.count k) (get_or s.sections.resources k 0)
