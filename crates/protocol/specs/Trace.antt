-- Lists of calls, and what they bring about.
-- Calls are numbered from 0. What is said of the state after k calls turns on the calls below k alone, so a list of calls is any sequence that
-- begins with it.
use Rattle.std.specs.Prelude.{◌≡◌, ◌⊎◌, ℕ, zero, suc, ◌<◌}
use Rattle.protocol.specs.Tasks.{Table}
use Rattle.protocol.specs.State.{State, fresh}
use Rattle.protocol.specs.Running.{Rule}
use Rattle.protocol.specs.Checks.{Call, release, resume, lock, unlock, suspend, complete, Ruling, refuse, grant, ruling}
use Rattle.protocol.specs.Step.{step}

-- What a call brings about, by the priority that it names: nothing where it is refused.
pub data Event : Type 0 where
  nothing : Event
  released : ℕ → Event
  resumed : ℕ → Event
  opened : ℕ → ℕ → Event
  closed : ℕ → ℕ → Event
  slept : ℕ → Event
  ended : ℕ → Event

abbrev pub accepted : Call → Event
accepted (release p) = released p
accepted (resume p n) = resumed p
accepted (lock p n r) = opened p r
accepted (unlock p n r) = closed p r
accepted (suspend p n) = slept p
accepted (complete p n) = ended p

abbrev pub outcome : Ruling → Call → Event
outcome (refuse n) c = nothing
outcome (grant i) c = accepted c

-- ---- calls on a fresh scheduler

module _ (E : Rule) (T : Table) (calls : ℕ → Call) where
  -- the state after k calls
  unfoldable pub after : ℕ → State
  after zero = fresh
  after (suc k) = (step E T (after k) (calls k)).state

  -- what the call k brings about
  abbrev pub event : ℕ → Event
  event k = outcome (ruling E T (after k) (calls k)) (calls k)

-- ---- sections, waits and jobs

module _ (ev : ℕ → Event) where
  -- A section is named by the call o that opened it: p locked r. It is open after k calls if that call is one of them and no later one closed it.
  pub record Open (o p r k : ℕ) : Type 0 where
    pub began : ev o ≡ opened p r
    pub made : o < k
    pub kept : (j : ℕ) → o < j → j < k → ev j ≡ closed p r → ⊥

  -- After k calls the job of priority p is in the wait that the call a began: its release or resume, with no sleep and no end since.
  pub record Waits (p a k : ℕ) : Type 0 where
    pub began : (ev a ≡ released p) ⊎ (ev a ≡ resumed p)
    pub made : a < k
    pub awake : (j : ℕ) → a < j → j < k → ev j ≡ slept p → ⊥
    pub going : (j : ℕ) → a < j → j < k → ev j ≡ ended p → ⊥

  -- After k calls the task of priority p has the job that the call a released.
  pub record Has (p a k : ℕ) : Type 0 where
    pub began : ev a ≡ released p
    pub made : a < k
    pub going : (j : ℕ) → a < j → j < k → ev j ≡ ended p → ⊥
