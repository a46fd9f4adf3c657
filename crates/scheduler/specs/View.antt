-- The scheduler's arrays seen as the machine's table, entries and state.
use Rattle.std.specs.Prelude.{◌≡◌, ℕ, length}
use Rattle.protocol.specs.Tasks.{Table}
use Rattle.protocol.specs.State.{Entry, State}
use Rattle.arrays.specs.View.{tasks_of, entries_of, sections_of}
use Rattle.scheduler.specs.declared.Scheduler.{Scheduler}

-- The arrays have their lengths, as those of any value of the struct have.
pub record Sized (s : Scheduler) : Type 0 where
  pub priorities : length s.tasks.priorities ≡ 32
  pub settings : length s.tasks.settings ≡ 32
  pub most : length s.tasks.most ≡ 32
  pub uses : length s.tasks.uses ≡ 512
  pub states : length s.entries.states ≡ 32
  pub started : length s.entries.started ≡ 32
  pub sleeps : length s.entries.sleeps ≡ 32
  pub opened : length s.entries.opened ≡ 512
  pub held : length s.entries.held ≡ 32
  pub serials : length s.entries.serials ≡ 32
  pub places : length s.sections.places ≡ 16
  pub resources : length s.sections.resources ≡ 16

-- the tasks, which no call changes
abbrev pub table_of : Scheduler → Table
table_of s = tasks_of s.tasks

-- the entry of each task
abbrev pub entry_of : Scheduler → ℕ → Entry
entry_of s = entries_of s.entries

-- the entries, and the open sections in order of opening
abbrev pub state_of : Scheduler → State
state_of s = record { entry = entry_of s; sections = sections_of s.sections }
