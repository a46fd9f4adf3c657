-- Demand 3, short waits: from a fresh scheduler on an accepted table, after any list of calls, refused ones included, no resource has two holders; a
-- running job's permitted lock never meets a held resource; a job that is released, unfinished and awake sees a lower-priority job run only inside a
-- section already open when that wait began; in the states in which it is above the system priority, one section to a wait; so at most one more such
-- section than its sleeps, and after its first sleep only sections of tasks above its own setting. `ShortWaits` has these clauses, one by one.
-- A sleeper freezes no holder: a call replies idle only where no section is open and each unfinished job sleeps or is behind one that does.
use Rattle.std.specs.Prelude.{ℕ, suc, ◌<◌, ◌≡◌, List, None}
use Rattle.searches.specs.Searches.{nowhere}
use Rattle.table.specs.declared.Shape.{Shape}
use Rattle.protocol.specs.Tasks.{Table, setting}
use Rattle.protocol.specs.State.{none, asleep, State, fresh}
use Rattle.protocol.specs.Running.{in_force, running}
use Rattle.protocol.specs.Checks.{Call}
use Rattle.protocol.specs.Accepted.{Accepted}
use Rattle.protocol.specs.Trace.{after, event}
use Rattle.protocol.specs.ShortWaits.{always, while_above, past_sleepers, OneToAWait, OneMoreThanSleeps, AboveSetting, ShortWaits}
use Rattle.protocol.specs.Idling.{Idle}
use Rattle.protocol.proofs.Runner.{lawful}
use Rattle.protocol.proofs.Theorems as machine
use Rattle.protocol.proofs.Listed.{answers}
use Rattle.protocol.proofs.Cases as cases
use Rattle.protocol.proofs.Needed as needed
use Rattle.protocol.proofs.Former as former
use Rattle.scheduler.specs.declared.Scheduler.{Scheduler}
use Rattle.scheduler.specs.declared.Reply.{Reply}
use Rattle.scheduler.specs.View.{table_of, state_of}
use Rattle.scheduler.specs.Fresh.{fresh_of}
use Rattle.scheduler.specs.Driven.{Driven, told}
use Rattle.scheduler.proofs.Theorems as code

-- ---- short waits

-- of the rules, for every accepted table and every list of calls
pub waits_are_short : (T : Table) → Accepted T → (calls : ℕ → Call)
    → ShortWaits in_force while_above (λ k. T) (after in_force T calls) (event in_force T calls)
waits_are_short = machine.short_waits in_force lawful

module _ {bytes : List ℕ} {h : Shape} {calls : ℕ → Call} {S : ℕ → Scheduler} {R : ℕ → Reply} (D : Driven bytes h calls S R) where
  -- of the code: `S k` is the scheduler after k calls from `set_up` on accepted bytes, `R k` the reply to the call k; events are told by the replies
  -- alone
  pub calls_wait_shortly : ShortWaits in_force while_above (λ k. table_of (S k)) (λ k. state_of (S k)) (λ k. told (R k) (calls k))
  calls_wait_shortly = code.calls_short_waits D

  -- it is enough that the job is above the settings of those that sleep
  pub calls_wait_shortly_past : ShortWaits in_force past_sleepers (λ k. table_of (S k)) (λ k. state_of (S k)) (λ k. told (R k) (calls k))
  calls_wait_shortly_past = code.calls_short_waits_past D

  -- so where all settings are 0 every state counts
  pub calls_wait_shortly_always : ((i : ℕ) → i < (table_of (fresh_of bytes h)).size → setting (table_of (fresh_of bytes h)) i ≡ 0)
      → ShortWaits in_force always (λ k. table_of (S k)) (λ k. state_of (S k)) (λ k. told (R k) (calls k))
  calls_wait_shortly_always = code.calls_short_waits_always D

-- where they aren't, not every state can count: of these two accepted tables, after one list of calls each, a job that never slept meets two sections
-- in one wait, and a job that has slept sees a task run that is not above its own setting
pub not_in_every_state : (Accepted needed.two_table × (OneToAWait in_force always (λ k. needed.two_table) needed.two_states needed.two_events → ⊥)
    × (OneMoreThanSleeps in_force always (λ k. needed.two_table) needed.two_states needed.two_events → ⊥))
    × (Accepted needed.rested_table × (AboveSetting in_force always (λ k. needed.rested_table) needed.rested_states needed.rested_events → ⊥))
not_in_every_state = (
  (needed.two_accepted, needed.wait_of_two, needed.two_and_no_sleep),
  (needed.rested_accepted, needed.at_its_setting),
)

-- ---- idling

-- of the rules: where some job is unfinished and none sleeps, something runs
pub never_idle : (T : Table) → Accepted T → (calls : ℕ → Call) (k i : ℕ) → (((after in_force T calls k).entry i).status ≡ none → ⊥)
    → ((j : ℕ) → ((after in_force T calls k).entry j).status ≡ asleep → ⊥) → running in_force T (after in_force T calls k).entry ≡ nowhere → ⊥
never_idle = machine.never_idle

module _ {bytes : List ℕ} {h : Shape} {calls : ℕ → Call} {S : ℕ → Scheduler} {R : ℕ → Reply} (D : Driven bytes h calls S R) where
  -- of the code: where after a call some job is unfinished and none sleeps, it doesn't reply idle
  pub calls_never_idle : (k i : ℕ) → (((state_of (S (suc k))).entry i).status ≡ none → ⊥)
      → ((j : ℕ) → ((state_of (S (suc k))).entry j).status ≡ asleep → ⊥) → (R k).running ≡ None → ⊥
  calls_never_idle = code.calls_never_idle D

  -- and where it does, no section is open, and each unfinished job sleeps or is not above the setting of one that does
  pub idle_only : (k : ℕ) → (R k).running ≡ None → Idle (table_of (S (suc k))) (state_of (S (suc k)))
  idle_only = code.calls_idle_only D

-- at the fair: task 1 holds a section, task 3 sleeps above it with its setting, task 2 waits; task 1 runs, and then task 2
pub at_the_fair : answers in_force cases.fair_table fresh cases.fair_calls ≡ cases.fair_answers
at_the_fair = (cases.computed).2

-- where all settings are 0, every list of calls is answered as when only a job above the system priority was eligible
pub as_before : (T : Table) → Accepted T → ((i : ℕ) → i < T.size → setting T i ≡ 0) → (s : State) (calls : List Call)
    → answers in_force T s calls ≡ answers former.above_system T s calls
as_before T = former.answers_same
