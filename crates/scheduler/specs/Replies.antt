-- What each call replies: the machine's step on the view, written back into the arrays.
use Rattle.std.specs.Prelude.{List, Bool, cond, ℕ, ◌+◌, ◌/◌, ◌%◌, ltb, leb, length, get_or, Option, None, Some}
use Rattle.searches.specs.Searches.{only}
use Rattle.protocol.specs.State.{Status, none, ready, waiting, asleep, Section, State, is_none, is_ready, is_waiting, is_asleep}
use Rattle.protocol.specs.Running.{in_force, running}
use Rattle.protocol.specs.Checks.{Call}
use Rattle.protocol.specs.Acting.{section}
use Rattle.protocol.specs.Step as machine
use Rattle.searches.specs.Indexed.{every}
use Rattle.arrays.specs.declared.Number.{Number}
use Rattle.arrays.specs.declared.denial.Denial.{Denial}
use Rattle.arrays.specs.declared.denial.Denial.TheVariants.{Unfit}
use Rattle.arrays.specs.View.{status_of, own_number}
use Rattle.arrays.specs.Stores.{started_at}
use Rattle.arrays.specs.Denials.{denial_of}
use Rattle.scheduler.specs.declared.Scheduler.{Scheduler}
use Rattle.scheduler.specs.declared.Reply.{Reply}
use Rattle.scheduler.specs.View.{table_of, entry_of, state_of}

-- the running job's number
abbrev pub running_of : machine.Running → Option Number
running_of machine.Running.idle = None
running_of (machine.Running.job p n) = Some (record { priority = p; serial = n })

-- whether two statuses are the same
abbrev pub says : Status → Status → Bool
says none x = is_none x
says ready x = is_ready x
says waiting x = is_waiting x
says asleep x = is_asleep x

-- the number of a status where n stood before: n itself where it already says the status, else the status's own number
abbrev pub number_for : ℕ → Status → ℕ
number_for n x = cond (says (status_of n) x) n (own_number x)

-- the number in the slot k, by a field of the section that is open there; past the open sections stands what stood there before, but 0 where a
-- section was open, of n
abbrev pub slot_for : (Section → ℕ) → List Section → ℕ → List ℕ → ℕ → ℕ
slot_for field sections n before k = cond (ltb k (length sections)) (field (get_or sections k (section 0 0))) (only (leb n k) (get_or before k 0))

-- the scheduler s with the state t written into it: each array by its places
abbrev pub written : Scheduler → State → Scheduler
written s t = record {
  tasks = s.tasks;
  entries = record {
    states = every (λ k. number_for (get_or s.entries.states k 0) (t.entry k).status) 32 0;
    started = every (λ k. (t.entry k).started) 32 0;
    sleeps = every (λ k. (t.entry k).sleeps) 32 0;
    opened = every (λ k. (t.entry (k / 16)).opened (k % 16 + 1)) 512 0;
    held = every (λ k. (t.entry k).held) 32 0;
    serials = every (λ k. (t.entry k).next) 32 0;
  };
  sections = record {
    count = length t.sections;
    places = every (slot_for (λ u. u.place) t.sections s.sections.count s.sections.places) 16 0;
    resources = every (slot_for (λ u. u.resource) t.sections s.sections.count s.sections.resources) 16 0;
  };
}

-- a reply of the machine, in the code's form
abbrev pub replied_by : Scheduler → machine.Reply → Reply
replied_by s m = record { refusal = denial_of m.refusal; running = running_of m.running; state = written s m.state }

-- ---- what a refusal answers

-- who runs
abbrev pub runs : Scheduler → Option Number
runs s = running_of (machine.number_at (table_of s) (entry_of s) (running in_force (table_of s) (entry_of s)))

-- who runs beside a refusal: nobody where the state is unfit
abbrev pub runs_beside : Denial → Scheduler → Option Number
runs_beside Unfit s = None
runs_beside _ s = runs s

-- a refused call answers who runs, and leaves the state as it is
abbrev pub refused_reply : Scheduler → Denial → Reply
refused_reply s d = record { refusal = Some d; running = runs_beside d s; state = s }

-- so an unfit state is answered with nobody running
abbrev pub unfit_reply : Scheduler → Reply
unfit_reply s = record { refusal = Some Unfit; running = None; state = s }

-- ---- what an accepted call answers, after its stores

-- the scheduler s with these started marks
abbrev pub with_started : Scheduler → List Bool → Scheduler
with_started s started = record s { entries = record s.entries { started = started } }

-- it answers who runs now, and that job is started
abbrev pub settled_reply : Scheduler → Reply
settled_reply s = record {
  refusal = None;
  running = runs s;
  state = with_started s (started_at s.entries.started (running in_force (table_of s) (entry_of s)));
}

-- ---- the reply to a call

-- the reply to a call on the scheduler s
abbrev pub replied : Scheduler → Call → Reply
replied s c = replied_by s (machine.step in_force (table_of s) (state_of s) c)
