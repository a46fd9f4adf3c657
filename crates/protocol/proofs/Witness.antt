-- The statement of short waits is not empty: in K job 3, which sleeps once, meets two sections.
use mathlib.Core.Path.{◌≡◌, refl}
use mathlib.Core.List.{List, [], ◌∷◌}
use mathlib.Core.Logic.{◌⊎◌, inl, inr, ⊎_elim}
use mathlib.Core.Bool.{true}
use Prim.Native.Nat.{ℕ, zero, suc, ◌+◌}
use native.Mathlib.Omega.{arith}
use lib.ListN.{length}
use Rattle.searches.specs.Searches.{at, first, best, all, some, largest}
use Rattle.protocol.specs.State.{State}
use Rattle.protocol.specs.Running.{ceiling, top, system_priority, in_force, running}
use Rattle.protocol.specs.Fit.{used, named, fit}
use Rattle.protocol.specs.Acting.{has, without}
use Rattle.protocol.specs.Step.{step}
use Rattle.protocol.specs.Accepted.{Accepted}
use Rattle.protocol.specs.Trace.{Event, released, resumed, opened, closed, ended, after, event, Waits, Has}
use Rattle.protocol.specs.ShortWaits.{Among, Distinct, while_above, Met}
use Rattle.protocol.proofs.Listed.{in_turn, accepted_so, never, has_still, meets_still}
use Rattle.protocol.proofs.Cases.{table, calls_k}

-- the states of K
abbrev state_k : ℕ → State
state_k = after in_force (table 0) (in_turn calls_k)

-- the events of K
abbrev event_k : ℕ → Event
event_k = event in_force (table 0) (in_turn calls_k)

-- the table is an accepted one
pub table_accepted : Accepted (table 0)
unfolding fit named all
table_accepted = accepted_so (table 0) refl refl proper
  where
    proper : (i : ℕ) → ((table 0).task i).uses 0 ≡ 0
    proper zero = refl
    proper (suc zero) = refl
    proper (suc (suc i)) = refl

-- what the calls 1, 2, 7 and 8 bring about
calls_do : (event_k 1 ≡ opened 1 1) × (event_k 2 ≡ released 3) × (event_k 7 ≡ opened 1 1) × (event_k 8 ≡ resumed 3)
unfolding after step fit used named all some running system_priority top ceiling first best largest has without
calls_do = (refl, refl, refl, refl)

-- job 1, at the place 2, runs after 3 calls and after 9, and its section is not closed before; the system priority is 0
job_one_runs : ((running in_force (table 0) (state_k 3).entry ≡ at 2) × (never event_k (closed 1 1) 1 3 ≡ true))
    × ((running in_force (table 0) (state_k 9).entry ≡ at 2) × (never event_k (closed 1 1) 7 9 ≡ true))
    × (system_priority (table 0) (state_k 3).entry ≡ 0) × (system_priority (table 0) (state_k 9).entry ≡ 0)
unfolding after step fit used named all some running system_priority top ceiling first best largest has without
job_one_runs = ((refl, refl), (refl, refl), refl, refl)

-- job 3 doesn't end
none_ends : never event_k (ended 3) 2 9 ≡ true
unfolding after step fit used named all some running system_priority top ceiling first best largest has without
none_ends = refl

-- after 9 calls it has slept once
slept_once : ((state_k 9).entry 0).sleeps ≡ 1
unfolding after step fit used named all some running system_priority top ceiling first best largest has without
slept_once = refl

-- a wait of job 3 that has only begun
begins : (a : ℕ) → (event_k a ≡ released 3) ⊎ (event_k a ≡ resumed 3) → Waits event_k 3 a (suc a)
begins a e = record { began = e; made = omega arith; awake = λ j lo hi e. omega arith; going = λ j lo hi e. omega arith }

-- the sections that job 3 meets
abbrev met_sections : List ℕ
met_sections = 1 ∷ 7 ∷ []

-- job 3, released by the call 2, has after 9 calls met the sections of the calls 1 and 7 and slept once: the bound is reached
pub bound_reached : Has event_k 3 2 9 × Distinct met_sections
    × ((o : ℕ) → Among o met_sections → Met in_force while_above (λ k. table 0) state_k event_k 3 2 9 o)
    × (((state_k 9).entry 0).sleeps ≡ 1) × (length met_sections ≡ ((state_k 9).entry 0).sleeps + 1)
bound_reached = (
  has_still event_k calls_do.1 (omega arith) none_ends,
  (λ y p e. ⊎_elim (λ q. omega arith) (λ z. z) p, (λ y p e. p, tt)),
  λ o p. ⊎_elim (λ e. rw e first_met) (λ q. ⊎_elim (λ e. rw e second_met) (λ z. absurd z) q) p,
  slept_once,
  omega (arith, slept_once),
)
  where
    first_met : Met in_force while_above (λ k. table 0) state_k event_k 3 2 9 1
    first_met = record {
      wait = 2;
      time = 3;
      within = (omega arith, omega arith);
      waits = begins 2 (inl calls_do.1);
      meets = meets_still in_force while_above (table 0) (in_turn calls_k) job_one_runs.0.0 (omega arith) calls_do.0 (omega arith)
          job_one_runs.0.1 (omega (arith, job_one_runs.2));
    }

    second_met : Met in_force while_above (λ k. table 0) state_k event_k 3 2 9 7
    second_met = record {
      wait = 8;
      time = 9;
      within = (omega arith, omega arith);
      waits = begins 8 (inr calls_do.3);
      meets = meets_still in_force while_above (table 0) (in_turn calls_k) job_one_runs.1.0 (omega arith) calls_do.2 (omega arith)
          job_one_runs.1.1 (omega (arith, job_one_runs.3));
    }
