-- One call: the answer, and the next state.
use Rattle.std.specs.Prelude.{Bool, true, false, ℕ}
use Rattle.searches.specs.Searches.{Place, nowhere, at}
use Rattle.protocol.specs.Tasks.{Table, priority}
use Rattle.protocol.specs.State.{Entry, State, serial}
use Rattle.protocol.specs.Running.{Rule, running}
use Rattle.protocol.specs.Fit.{fit}
use Rattle.protocol.specs.Checks.{Call, Ruling, refuse, grant, ruling}
use Rattle.protocol.specs.Acting.{act, settle}

-- The running job's number, or idle.
pub data Running : Type 0 where
  idle : Running
  job : ℕ → ℕ → Running

-- the number of the job at a place
abbrev pub number_at : Table → (ℕ → Entry) → Place → Running
number_at T f nowhere = idle
number_at T f (at i) = job (priority T i) (serial (f i))

abbrev pub if_fit : Bool → Running → Running
if_fit true x = x
if_fit false x = idle

-- What a call answers: 0 or a refusal, the running job, and the next state.
pub record Reply : Type 0 where
  pub refusal : ℕ
  pub running : Running
  pub state : State

-- a refusal changes nothing, and that of an unfit state answers idle
abbrev pub answer : Rule → Table → State → Call → Ruling → Reply
answer E T s c (refuse n) =
    record { refusal = n; running = if_fit (fit T s) (number_at T s.entry (running E T s.entry)); state = s }
answer E T s c (grant i) =
    let t = settle E T (act T s c i) in
    record { refusal = 0; running = number_at T t.entry (running E T t.entry); state = t }

unfoldable pub step : Rule → Table → State → Call → Reply
step E T s c = answer E T s c (ruling E T s c)
