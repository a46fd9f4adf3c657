-- Calls on a scheduler that is set up on a table's bytes, each handed the state that the last one answered.
use Rattle.std.specs.Prelude.{◌≡◌, List, Bool, true, false, ℕ, suc, eqb, Ok}
use Rattle.protocol.specs.Checks.{Call}
use Rattle.protocol.specs.Trace.{Event, nothing, accepted}
use Rattle.table.specs.declared.Shape.{Shape}
use Rattle.table.specs.Reading.{read_table}
use Rattle.arrays.specs.Denials.{refusal_number}
use Rattle.scheduler.specs.declared.Scheduler.{Scheduler}
use Rattle.scheduler.specs.declared.Reply.{Reply}
use Rattle.scheduler.specs.Replies.{replied}
use Rattle.scheduler.specs.Fresh.{set_up}

-- `S k` is the scheduler after k calls, and `R k` the reply to the call k. The bytes are those of an accepted table.
pub record Driven (bytes : List ℕ) (h : Shape) (calls : ℕ → Call) (S : ℕ → Scheduler) (R : ℕ → Reply) : Type 0 where
  pub reads : read_table bytes ≡ Ok h
  pub starts : S 0 ≡ (set_up bytes).scheduler
  pub replies : (k : ℕ) → R k ≡ replied (S k) (calls k)
  pub goes_on : (k : ℕ) → S (suc k) ≡ (R k).state

-- what an accepted call brings about; a refused one nothing
abbrev pub event_if : Bool → Call → Event
event_if true c = accepted c
event_if false c = nothing

-- what a call brings about, told by the refusal in its reply alone
abbrev pub told : Reply → Call → Event
told r c = event_if (eqb (refusal_number r.refusal) 0) c
