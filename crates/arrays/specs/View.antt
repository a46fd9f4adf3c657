-- A scheduler's arrays seen as the machine's table, entries and open sections.
use Rattle.std.specs.Prelude.{ℕ, zero, suc, ◌+◌, ◌*◌, Bool, false, not, ◌&&◌, List, [], ◌∷◌, ◌++◌, ◌==◌, nat_lt, slice_index, slice_index_or, replicate, Option, None, Some}
use Rattle.searches.specs.Searches.{only}
use Rattle.protocol.specs.Tasks.{Table, priority, setting}
use Rattle.protocol.specs.State.{Status, none, ready, waiting, asleep, Entry, Section, serial, is_ready, is_asleep}
use Rattle.protocol.specs.Running.{in_force}
use Rattle.protocol.specs.Checks.{numbered}
use Rattle.protocol.specs.Acting.{section}
use Rattle.arrays.specs.declared.Number.{Number}
use Rattle.arrays.specs.declared.tasks.Tasks.{Tasks}
use Rattle.arrays.specs.declared.entries.Entries.{Entries}
use Rattle.arrays.specs.declared.sections.Sections.{Sections}

-- a status by its number: 1 ready, 2 waiting, 3 asleep; any other is no job
abbrev pub status_of : ℕ → Status
status_of zero = none
status_of (suc zero) = ready
status_of (suc (suc zero)) = waiting
status_of (suc (suc (suc zero))) = asleep
status_of (suc (suc (suc (suc n)))) = none

-- a status's own number
abbrev pub own_number : Status → ℕ
own_number none = 0
own_number ready = 1
own_number waiting = 2
own_number asleep = 3

-- the count of the task at place i for a resource: sixteen stand for each place, for the resources 1 to 16
abbrev pub count_of : List ℕ → ℕ → ℕ → ℕ
count_of l i zero = 0
count_of l i (suc r) = only (nat_lt r 16) (slice_index l (i * 16 + r))

-- ---- the three parts

-- the tasks
abbrev pub tasks_of : Tasks → Table
tasks_of t = record {
  size = t.count;
  task = λ i. record {
    priority = slice_index t.priorities i;
    setting = slice_index t.settings i;
    most = slice_index t.most i;
    uses = count_of t.uses i;
  };
}

-- the entry of each task
abbrev pub entries_of : Entries → ℕ → Entry
entries_of e i = record {
  status = status_of (slice_index e.states i);
  started = slice_index_or e.started i false;
  sleeps = slice_index e.sleeps i;
  opened = count_of e.opened i;
  held = slice_index e.held i;
  next = slice_index e.serials i;
}

-- the open sections, n of them, by the arrays of places and resources
unfoldable pub sections_by : List ℕ → List ℕ → ℕ → List Section
sections_by places resources zero = []
sections_by places resources (suc n) = sections_by places resources n ++ (section (slice_index places n) (slice_index resources n) ∷ [])

-- the open sections
abbrev pub sections_of : Sections → List Section
sections_of s = sections_by s.places s.resources s.count

-- the resource of the last of n open sections
abbrev pub last_open : List ℕ → ℕ → Option ℕ
last_open resources zero = None
last_open resources (suc n) = Some (slice_index resources n)

-- the number of the latest job at a place
abbrev pub number_of : Table → (ℕ → Entry) → ℕ → Number
number_of T f i = record { priority = priority T i; serial = serial (f i) }

-- ---- a scheduler that was set up

-- no job yet
abbrev pub no_entries : Entries
no_entries = record {
  states = replicate 32 0;
  started = replicate 32 false;
  sleeps = replicate 32 0;
  opened = replicate 512 0;
  held = replicate 32 0;
  serials = replicate 32 0;
}

-- no section open
abbrev pub no_sections : Sections
no_sections = record { count = 0; places = replicate 16 0; resources = replicate 16 0 }

-- ---- tests of a place

-- whether a job is ready and, under the system priority y, eligible: by its status, the resource that it holds and its priority
abbrev pub eligible_by : Status → ℕ → ℕ → ℕ → Bool
eligible_by x held y p = is_ready x && in_force y p (not (held == 0))

-- whether the job at a place is
abbrev pub eligible_under : Table → (ℕ → Entry) → ℕ → ℕ → Bool
eligible_under T f y i = eligible_by (f i).status (f i).held y (priority T i)

-- its priority where it is, else 0
abbrev pub eligible_priority : Table → (ℕ → Entry) → ℕ → ℕ → ℕ
eligible_priority T f y i = only (eligible_under T f y i) (priority T i)

-- whether the task has the priority p
abbrev pub of_priority : Table → ℕ → ℕ → Bool
of_priority T p i = priority T i == p

-- whether the task's latest job sleeps under the number p, n
abbrev pub sleeping : Table → (ℕ → Entry) → ℕ → ℕ → ℕ → Bool
sleeping T f p n i = is_asleep (f i).status && numbered T f p n i

-- whether the setting is below the priority
abbrev pub setting_below : Table → ℕ → Bool
setting_below T i = nat_lt (setting T i) (priority T i)

-- whether the section in a slot is that of place i and resource r
abbrev pub is_section : List ℕ → List ℕ → ℕ → ℕ → ℕ → Bool
is_section places resources i r k = i == slice_index places k && r == slice_index resources k
