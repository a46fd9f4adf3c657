-- In time: where the analysis of a table's bytes tells a task a bound, the work of each of its jobs is done within it, as long as the jobs keep to the
-- table; and where work that has ended is completed at once the job is over. Here is what it is for calls to be made at instants, for a job to execute
-- and to sleep, to keep to a table, and to be done and over in time.
use Rattle.std.specs.Prelude.{ℕ, zero, suc, ◌+◌, ◌≤◌, ◌<◌, ◌≡◌, Bool, List, eqb, Option, None, Some}
use Rattle.searches.specs.Searches.{only}
use Rattle.searches.specs.Indexed.{sum_to}
use Rattle.table.specs.declared.Shape.{Shape}
use Rattle.table.specs.WellFormed.{task_of, use_of}
use Rattle.analysis.specs.declared.TaskAnswer.TheVariants.{Bound}
use Rattle.analysis.specs.Analysing.{analysed}
use Rattle.analysis.specs.Answering.{answer_at}
use Rattle.protocol.specs.Tasks.{Table}
use Rattle.protocol.specs.State.{is_asleep}
use Rattle.protocol.specs.Running.{Rule}
use Rattle.protocol.specs.Checks.{Call, release}
use Rattle.protocol.specs.Step.{step}
use Rattle.protocol.specs.Trace.{Event, released, ended, after, event, Open, Has}
use Rattle.scheduler.specs.declared.Scheduler.{Scheduler}
use Rattle.arrays.specs.declared.Number.{Number}
use Rattle.scheduler.specs.declared.Reply.{Reply}
use Rattle.scheduler.specs.View.{state_of}
use Rattle.scheduler.specs.Replies.{running_of}
use Rattle.scheduler.specs.Driven.{told}

-- ---- instants and ticks

-- Calls are made at instants: those of the instant t are numbered from `first t` to below `first (suc t)`. The tick t follows on all of them.
pub record Clock : Type 0 where
  pub first : ℕ → ℕ
  pub from_none : first 0 ≡ 0
  pub goes_on : (t : ℕ) → first t ≤ first (suc t)

-- The call a is made at the instant t.
pub record At (K : Clock) (a t : ℕ) : Type 0 where
  pub from : K.first t ≤ a
  pub till : a < K.first (suc t)

-- how many calls are made by the tick t
abbrev pub calls_by : Clock → ℕ → ℕ
calls_by K t = K.first (suc t)

-- ---- what is seen of calls

-- What the call k brings about, the priority of the job that its reply names, 0 for idle, and whether after k calls the job at a place sleeps.
pub record Seen : Type 0 where
  pub event : ℕ → Event
  pub named : ℕ → ℕ
  pub asleep : ℕ → ℕ → Bool

-- the priority in a reply
abbrev pub priority_in : Option Number → ℕ
priority_in None = 0
priority_in (Some job) = job.priority

-- of the scheduler's own calls, each told by its reply: `S k` is the scheduler after k calls, and `R k` the reply to the call k
abbrev pub seen : (ℕ → Call) → (ℕ → Scheduler) → (ℕ → Reply) → Seen
seen calls S R = record {
  event = λ k. told (R k) (calls k);
  named = λ k. priority_in (R k).running;
  asleep = λ k i. is_asleep ((state_of (S k)).entry i).status;
}

-- of calls on the machine, under a rule
abbrev pub seen_under : Rule → Table → (ℕ → Call) → Seen
seen_under E T calls = record {
  event = event E T calls;
  named = λ k. priority_in (running_of (step E T (after E T calls k) (calls k)).running);
  asleep = λ k i. is_asleep ((after E T calls k).entry i).status;
}

-- ---- ticks counted

-- the priority that the last of k replies named, 0 before any
abbrev pub last_named : Seen → ℕ → ℕ
last_named X zero = 0
last_named X (suc k) = X.named k

-- 1 in a tick in which the job of the priority p executes: the last reply before it named that job
abbrev pub executes : Clock → Seen → ℕ → ℕ → ℕ
executes K X p t = only (eqb (last_named X (calls_by K t)) p) 1

-- 1 in a tick through which the job at the place i sleeps
abbrev pub rests : Clock → Seen → ℕ → ℕ → ℕ
rests K X i t = only (X.asleep (calls_by K t) i) 1

-- over the n ticks from the tick u on
abbrev pub count : (ℕ → ℕ) → ℕ → ℕ → ℕ
count f u n = sum_to (λ x. f (u + x)) n

-- ---- jobs that keep to the table

-- Ticks are counted from the instant r at which the call a released the job, or the call o opened the section.
pub record Obeys (s : List ℕ) (h : Shape) (K : Clock) (X : Seen) : Type 0 where
  -- Releases of a task are T apart, or more.
  pub apart : (i a b t u : ℕ) → i < h.tasks → a < b → X.event a ≡ released (task_of s i).priority → X.event b ≡ released (task_of s i).priority
      → At K a t → At K b u → t + (task_of s i).period ≤ u
  -- A job that is there until the instant r + n has executed in C ticks at most,
  pub works : (i a r n : ℕ) → i < h.tasks → At K a r → Has X.event (task_of s i).priority a (K.first (r + n))
      → count (executes K X (task_of s i).priority) r n ≤ (task_of s i).run
  -- and has slept through S at most;
  pub sleeps : (i a r n : ℕ) → i < h.tasks → At K a r → Has X.event (task_of s i).priority a (K.first (r + n))
      → count (rests K X i) r n ≤ (task_of s i).sleep
  -- and with a section open until then it has executed in L ticks at most since it opened that.
  pub holds : (k o r n : ℕ) → k < h.uses → At K o r
      → Open X.event o (use_of s h.uses_at k).priority (use_of s h.uses_at k).resource (K.first (r + n))
      → count (executes K X (use_of s h.uses_at k).priority) r n ≤ (use_of s h.uses_at k).length

-- The job of the task at i that the call a released at r is completed at the instant at which its work ends: if it is there in the tick r + n, it has
-- executed in less than C before it.
abbrev pub Prompt : List ℕ → Clock → Seen → (i a r : ℕ) → Type 0
Prompt s K X i a r = (n : ℕ) → Has X.event (task_of s i).priority a (calls_by K (r + n))
    → count (executes K X (task_of s i).priority) r n < (task_of s i).run

-- ---- in time

-- Of the job of the task at i that was released at the instant r nothing is left in the tick r + n: before it, it executed in all its C ticks and
-- slept through all its S.
abbrev pub NothingLeft : List ℕ → Clock → Seen → (i r n : ℕ) → Type 0
NothingLeft s K X i r n =
    (count (executes K X (task_of s i).priority) r n ≡ (task_of s i).run) × (count (rests K X i) r n ≡ (task_of s i).sleep)

-- where a job is there in a tick from r + v on, v being the bound that its task is told, nothing is left of it but to be completed
abbrev pub DoneInTime : List ℕ → Shape → ℕ → Clock → Seen → Type 0
DoneInTime s h allowance K X = (i a r v n : ℕ) → i < h.tasks → answer_at (analysed s allowance) i ≡ Bound v
    → At K a r → v ≤ n → Has X.event (task_of s i).priority a (calls_by K (r + n)) → NothingLeft s K X i r n

-- The job of the priority p that the call a released at the instant r is over within v: a later call ended it, at the instant r + v at the latest.
abbrev pub OverWithin : Clock → Seen → (p a r v : ℕ) → Type 0
OverWithin K X p a r v = (j : ℕ) × (a < j) × (j < calls_by K (r + v)) × (X.event j ≡ ended p)

-- every job that is completed promptly is over within the bound that its task is told
abbrev pub InTime : List ℕ → Shape → ℕ → Clock → Seen → Type 0
InTime s h allowance K X = (i a r v : ℕ) → i < h.tasks → answer_at (analysed s allowance) i ≡ Bound v
    → X.event a ≡ released (task_of s i).priority → At K a r → Prompt s K X i a r → OverWithin K X (task_of s i).priority a r v

-- ---- releases

-- The call b, at the instant u, asks for a release of the task of priority p, a period or more after the task's last one, by the call a at t.
pub record ReleasedAgain (calls : ℕ → Call) (K : Clock) (X : Seen) (p a b t u period : ℕ) : Type 0 where
  pub order : a < b
  pub last : X.event a ≡ released p
  pub none_between : (c : ℕ) → a < c → c < b → X.event c ≡ released p → ⊥
  pub asks : calls b ≡ release p
  pub last_at : At K a t
  pub asked_at : At K b u
  pub apart : t + period ≤ u

-- It comes just a period after that one, the bound v is the period, and a later call of the same instant ends the job.
pub record AtTheInstant (K : Clock) (X : Seen) (p b t u v period : ℕ) : Type 0 where
  pub just_then : u ≡ t + period
  pub bound_whole : v ≡ period
  pub call : ℕ
  pub later : b < call
  pub same : At K call u
  pub ends : X.event call ≡ ended p

-- of a task that is told a bound, a release T or more after one whose job is completed promptly is refused with 12, by these refusals, only if it is at
-- the very instant
abbrev pub ReleasedInTime : List ℕ → Shape → ℕ → (ℕ → Call) → Clock → Seen → (ℕ → ℕ) → Type 0
ReleasedInTime s h allowance calls K X refusal = (i a b t u v : ℕ) → i < h.tasks → answer_at (analysed s allowance) i ≡ Bound v
    → ReleasedAgain calls K X (task_of s i).priority a b t u (task_of s i).period → Prompt s K X i a t → refusal b ≡ 12
    → AtTheInstant K X (task_of s i).priority b t u v (task_of s i).period
