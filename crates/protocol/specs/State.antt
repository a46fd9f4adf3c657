-- The scheduler's state: an entry for each task, and the open sections in order of opening.
use Rattle.std.specs.Prelude.{List, [], Bool, true, false, not, ℕ, ◌+◌, ◌%◌, eqb}

-- What a task's job is: there is none, or it is ready, waiting or asleep.
pub data Status : Type 0 where
  none ready waiting asleep : Status

-- A task's entry: its job's status, whether that is started, the sleeps it made, the sections it opened of each resource, the resource that it
-- holds, 0 for none, and the serial that the next release takes.
pub record Entry : Type 0 where
  pub status : Status
  pub started : Bool
  pub sleeps : ℕ
  pub opened : ℕ → ℕ
  pub held : ℕ
  pub next : ℕ

-- An open section: the place of its holder, and the resource.
pub record Section : Type 0 where
  pub place : ℕ
  pub resource : ℕ

pub record State : Type 0 where
  pub entry : ℕ → Entry
  pub sections : List Section

-- no job yet, and serials begin at 0
abbrev pub fresh : State
fresh = record {
  entry = λ i. record { status = none; started = false; sleeps = 0; opened = λ r. 0; held = 0; next = 0 };
  sections = [];
}

-- the serial that follows n: after 65,535 comes 0
abbrev pub following : ℕ → ℕ
following n = (n + 1) % 65536

-- the serial of the task's latest job: the one before the next
abbrev pub serial : Entry → ℕ
serial e = (e.next + 65535) % 65536

-- whether an entry's job holds a section
abbrev pub holds : Entry → Bool
holds e = not (eqb e.held 0)

abbrev pub is_none : Status → Bool
is_none none = true
is_none ready = false
is_none waiting = false
is_none asleep = false

abbrev pub is_ready : Status → Bool
is_ready none = false
is_ready ready = true
is_ready waiting = false
is_ready asleep = false

abbrev pub is_waiting : Status → Bool
is_waiting none = false
is_waiting ready = false
is_waiting waiting = true
is_waiting asleep = false

abbrev pub is_asleep : Status → Bool
is_asleep none = false
is_asleep ready = false
is_asleep waiting = false
is_asleep asleep = true
