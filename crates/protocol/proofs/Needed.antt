-- Why meetings count only while the job is above the system priority: under the rule in force, counting every state, a job meets two sections in one
-- wait, and after a sleep a section of a task at its own setting.
use mathlib.Core.Path.{◌≡◌, refl}
use mathlib.Core.List.{[], ◌∷◌}
use mathlib.Core.Logic.{inl, inr, ⊎_elim}
use mathlib.Core.Bool.{true}
use Prim.Native.Nat.{ℕ, zero, suc}
use native.Mathlib.Omega.{arith}
use Rattle.searches.specs.Searches.{at, first, best, all, some, largest}
use Rattle.protocol.specs.Tasks.{Task, Table}
use Rattle.protocol.specs.State.{State}
use Rattle.protocol.specs.Running.{ceiling, top, system_priority, in_force, running}
use Rattle.protocol.specs.Fit.{used, named, fit}
use Rattle.protocol.specs.Checks.{Call, release, resume, lock, unlock, suspend}
use Rattle.protocol.specs.Acting.{has, without}
use Rattle.protocol.specs.Step.{step}
use Rattle.protocol.specs.Accepted.{Accepted}
use Rattle.protocol.specs.Trace.{Event, released, resumed, opened, closed, slept, ended, after, event, Waits}
use Rattle.protocol.specs.ShortWaits.{Among, always, Meets, Met, OneToAWait, OneMoreThanSleeps, AboveSetting}
use Rattle.protocol.proofs.Listed.{in_turn, accepted_so, never, waits_still, has_still, meets_still}
use Rattle.protocol.proofs.Cases.{task}

-- ---- two sections in one wait

-- the tasks 4, with the setting 3, 3, 2 and 1; 2 uses resource 2, and 1 resource 1
abbrev two_tasks : ℕ → Task
two_tasks zero = task 4 3 1 1 0
two_tasks (suc zero) = task 3 0 0 1 0
two_tasks (suc (suc zero)) = task 2 0 0 2 1
two_tasks (suc (suc (suc i))) = task 1 0 0 1 1

abbrev pub two_table : Table
two_table = record { size = 4; task = two_tasks }

pub two_accepted : Accepted two_table
unfolding fit named all
two_accepted = accepted_so two_table refl refl proper
  where
    proper : (i : ℕ) → (two_tasks i).uses 0 ≡ 0
    proper zero = refl
    proper (suc zero) = refl
    proper (suc (suc zero)) = refl
    proper (suc (suc (suc i))) = refl

-- 1 and 2 hold sections when 4 and then 3 come; 4 sleeps, and behind its setting 3 sees first 2 and then 1 run
abbrev pub two_calls : ℕ → Call
two_calls =
    in_turn (release 1 ∷ lock 1 0 1 ∷ release 2 ∷ lock 2 0 2 ∷ release 4 ∷ release 3 ∷ suspend 4 0 ∷ unlock 2 0 2 ∷ [])

abbrev pub two_states : ℕ → State
two_states = after in_force two_table two_calls

abbrev pub two_events : ℕ → Event
two_events = event in_force two_table two_calls

-- what the calls bring about, who runs after 7 and 8 of them, and what doesn't happen; job 3 has not slept
two_computed : ((two_events 1 ≡ opened 1 1) × (two_events 3 ≡ opened 2 2) × (two_events 5 ≡ released 3))
    × ((running in_force two_table (two_states 7).entry ≡ at 2) × (running in_force two_table (two_states 8).entry ≡ at 3))
    × ((never two_events (closed 2 2) 3 7 ≡ true) × (never two_events (closed 1 1) 1 8 ≡ true))
    × ((never two_events (slept 3) 5 7 ≡ true) × (never two_events (slept 3) 5 8 ≡ true))
    × ((never two_events (ended 3) 5 7 ≡ true) × (never two_events (ended 3) 5 8 ≡ true)) × (((two_states 8).entry 1).sleeps ≡ 0)
unfolding after step fit used named all some running system_priority top ceiling first best largest has without
two_computed = ((refl, refl, refl), (refl, refl), (refl, refl), (refl, refl), (refl, refl), refl)

-- job 3 is in one wait after 7 calls and after 8
two_waits : Waits two_events 3 5 7 × Waits two_events 3 5 8
two_waits =
    let c = two_computed in (
      waits_still two_events (inl c.0.2) (omega arith) c.3.0 c.4.0,
      waits_still two_events (inl c.0.2) (omega arith) c.3.1 c.4.1,
    )

-- and meets the sections of the calls 3 and 1
pub two_met : Meets in_force always (λ k. two_table) two_states two_events 3 3 7 × Meets in_force always (λ k. two_table) two_states two_events 3 1 8
two_met =
    let c = two_computed in (
      meets_still in_force always two_table two_calls c.1.0 (omega arith) c.0.1 (omega arith) c.2.0 tt,
      meets_still in_force always two_table two_calls c.1.1 (omega arith) c.0.0 (omega arith) c.2.1 tt,
    )

-- so, counting every state, a wait is not of one section
pub wait_of_two : OneToAWait in_force always (λ k. two_table) two_states two_events → ⊥
wait_of_two one = omega (arith, one 3 5 7 8 3 1 two_waits.0 two_waits.1 two_met.0 two_met.1)

-- nor is the count one more than the sleeps
pub two_and_no_sleep : OneMoreThanSleeps in_force always (λ k. two_table) two_states two_events → ⊥
two_and_no_sleep count =
    let c = two_computed in
    omega (
      arith,
      c.5,
      count 3 5 8 1 (omega arith) refl (has_still two_events c.0.2 (omega arith) c.4.1) (3 ∷ 1 ∷ [])
          (λ y p e. ⊎_elim (λ q. omega arith) (λ z. z) p, (λ y p e. p, tt)) met,
    )
  where
    met : (o : ℕ) → Among o (3 ∷ 1 ∷ []) → Met in_force always (λ k. two_table) two_states two_events 3 5 8 o
    met o (inl e) =
        rw e (record { wait = 5; time = 7; within = (omega arith, omega arith); waits = two_waits.0; meets = two_met.0 })
    met o (inr (inl e)) =
        rw e (record { wait = 5; time = 8; within = (omega arith, omega arith); waits = two_waits.1; meets = two_met.1 })
    met o (inr (inr z)) = absurd z

-- ---- after a sleep

-- the tasks 3, with the setting 2, 2, with the setting 1, and 1, which uses resource 1
abbrev rested_tasks : ℕ → Task
rested_tasks zero = task 3 2 1 1 0
rested_tasks (suc zero) = task 2 1 1 1 0
rested_tasks (suc (suc i)) = task 1 0 0 1 1

abbrev pub rested_table : Table
rested_table = record { size = 3; task = rested_tasks }

pub rested_accepted : Accepted rested_table
unfolding fit named all
rested_accepted = accepted_so rested_table refl refl proper
  where
    proper : (i : ℕ) → (rested_tasks i).uses 0 ≡ 0
    proper zero = refl
    proper (suc zero) = refl
    proper (suc (suc i)) = refl

-- 1 holds a section when 2 sleeps; 3 comes, 2 wakes and 3 sleeps, and behind 3's setting 2 sees 1 run
abbrev pub rested_calls : ℕ → Call
rested_calls =
    in_turn (release 1 ∷ lock 1 0 1 ∷ release 2 ∷ suspend 2 0 ∷ release 3 ∷ resume 2 0 ∷ suspend 3 0 ∷ [])

abbrev pub rested_states : ℕ → State
rested_states = after in_force rested_table rested_calls

abbrev pub rested_events : ℕ → Event
rested_events = event in_force rested_table rested_calls

-- what the call 5 brings about, who runs after 7, and what doesn't happen; job 2 has slept once
rested_computed : (rested_events 5 ≡ resumed 2) × (running in_force rested_table (rested_states 7).entry ≡ at 2)
    × (never rested_events (slept 2) 5 7 ≡ true) × (never rested_events (ended 2) 5 7 ≡ true) × (((rested_states 7).entry 1).sleeps ≡ 1)
unfolding after step fit used named all some running system_priority top ceiling first best largest has without
rested_computed = (refl, refl, refl, refl, refl)

-- so, counting every state, a job that has slept sees a task run that is not above its own setting
pub at_its_setting : AboveSetting in_force always (λ k. rested_table) rested_states rested_events → ⊥
at_its_setting above =
    let c = rested_computed in
    omega (
      arith,
      above 2 5 2 7 1 (omega arith) refl (waits_still rested_events (inr c.0) (omega arith) c.2 c.3)
          (record { runs = c.1; lower = omega arith }) tt (omega (arith, c.4)),
    )
