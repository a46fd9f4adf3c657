-- The former rule, under which only a job above the system priority was eligible, beside the one in force: K and L are answered alike, and so are all
-- calls where all settings are 0; at the fair the processor sat idle.
use mathlib.Core.Path.{◌≡◌, refl, ap, ◌∙◌}
use mathlib.Core.List.{List, [], ◌∷◌}
use Prim.Native.Nat.{ℕ, ◌≤◌, ◌<◌}
use native.Mathlib.Omega.{arith}
use lib.Dec.{ltb}
use lib.ListN.{length}
use borrow.Author.Tests.{ltb-true, lt-ltb}
use Rattle.searches.specs.Searches.{first, best, all, some, largest}
use Rattle.searches.proofs.Searching.{best_same}
use Rattle.protocol.specs.Tasks.{Table, priority, setting}
use Rattle.protocol.specs.State.{Entry, State, fresh}
use Rattle.protocol.specs.Running.{ceiling, top, system_priority, Rule, in_force, eligible, running}
use Rattle.protocol.specs.Fit.{used, named, fit}
use Rattle.protocol.specs.Checks.{Call, release, resume, lock, unlock, suspend, complete, Ruling, refuse, grant, demand, found, numbered}
use Rattle.protocol.specs.Checks.{locking, unlocking, suspending, completing, by_running, ruling}
use Rattle.protocol.specs.Acting.{has, without, act, start, settle}
use Rattle.protocol.specs.Step.{Running, idle, job, number_at, if_fit, answer, step}
use Rattle.protocol.specs.Accepted.{Accepted, Lawful}
use Rattle.protocol.specs.Trace.{after, event}
use Rattle.protocol.specs.ShortWaits.{always, ShortWaits}
use Rattle.protocol.proofs.Runner.{priority_below, Runs, runs}
use Rattle.protocol.proofs.Runs.{calls_run}
use Rattle.protocol.proofs.Meetings.{Fair}
use Rattle.protocol.proofs.Theorems.{run_short_waits}
use Rattle.protocol.proofs.Listed.{answers}
use Rattle.protocol.proofs.Cases.{table, calls_k, answers_k, calls_l, answers_l, fair_table, fair_calls}

-- the former rule
abbrev pub above_system : Rule
above_system system p h = ltb system p

-- K and L were answered as now
pub answered_alike : (answers above_system (table 0) fresh calls_k ≡ answers_k) × (answers above_system (table 1) fresh calls_l ≡ answers_l)
unfolding answers step fit used named all some running system_priority top ceiling first best largest has without
answered_alike = (refl, refl)

-- the fair's list: from the sleep of 3 on nothing ran until it woke, and so the calls of 1 and 2 were refused
abbrev former_answers : List (ℕ × Running)
former_answers =
    (0, job 1 0) ∷ (0, job 1 0) ∷ (0, job 3 0) ∷ (0, idle) ∷ (0, idle) ∷ (13, idle) ∷ (13, idle) ∷ (13, idle) ∷ (0, job 3 0) ∷ (0, job 1 0)
    ∷ (13, job 1 0) ∷ (18, job 1 0) ∷ []

pub sat_idle : answers above_system fair_table fresh fair_calls ≡ former_answers
unfolding answers step fit used named all some running system_priority top ceiling first best largest has without
sat_idle = refl

-- it was lawful
pub former_lawful : Lawful above_system
former_lawful = record {
  above = λ system p h lt. lt-ltb system p lt;
  only_above = λ system p e. ltb-true system p e;
  rises = λ system p q e lt. lt-ltb system q (omega (arith, ltb-true system p e));
}

-- and under it waits were short counting every state: a lower job that ran was itself above the system priority
pub former_short_waits : (T : Table) → Accepted T → (calls : ℕ → Call)
    → ShortWaits above_system always (λ k. T) (after above_system T calls) (event above_system T calls)
former_short_waits T A calls = run_short_waits above (calls_run former_lawful A calls)
  where
    above : Fair above_system always (λ k. T) (after above_system T calls) (event above_system T calls)
    above p q k v c =
        let s = after above_system T calls k in
        let R : Runs above_system T s q = runs v.runs in
        omega (arith, v.lower, ltb-true (system_priority T s.entry) (priority T q) R.may)

-- ---- without settings

module _ {T : Table} (A : Accepted T) (zeros : (i : ℕ) → i < T.size → setting T i ≡ 0) where
  -- where all settings are 0 every ready job is above the system priority, so the same job runs
  running_same : (f : ℕ → Entry) → running in_force T f ≡ running above_system T f
  unfolding running
  running_same f = best_same (eligible in_force T f) (eligible above_system T f) (priority T) T.size same
    where
      same : (i : ℕ) → i < T.size → eligible in_force T f i ≡ eligible above_system T f i
      same i lt =
          let system : system_priority T f ≤ 0 = priority_below T f 0 (λ j lj b u. omega (arith, zeros j lj)) in
          rw (lt-ltb (system_priority T f) (priority T i) (omega (arith, system, A.below i lt)))

  module _ (s : State) where
    -- the checks come to the same
    by_same : (p n : ℕ) (more : ℕ → Ruling) → by_running in_force T s.entry p n more ≡ by_running above_system T s.entry p n more
    by_same p n more = ap (λ x. found 13 x (λ i. demand 13 (numbered T s.entry p n i) (more i))) (running_same s.entry)

    pub ruling_same : (c : Call) → ruling in_force T s c ≡ ruling above_system T s c
    ruling_same (release p) = refl
    ruling_same (resume p n) = refl
    ruling_same (lock p n r) = ap (demand 26 (fit T s)) (by_same p n (locking T s.entry (ltb (length s.sections) 16) r))
    ruling_same (unlock p n r) = ap (demand 26 (fit T s)) (by_same p n (unlocking s.entry r))
    ruling_same (suspend p n) = ap (demand 26 (fit T s)) (by_same p n (suspending T s.entry))
    ruling_same (complete p n) = ap (demand 26 (fit T s)) (by_same p n (completing s.entry))

    -- so does the reply
    answer_same : (c : Call) (r : Ruling) → answer in_force T s c r ≡ answer above_system T s c r
    answer_same c (refuse n) =
        ap (λ x. record { refusal = n; running = if_fit (fit T s) (number_at T s.entry x); state = s }) (running_same s.entry)
    answer_same c (grant i) =
        let u = act T s c i in
        let t = settle above_system T u in
        ap (λ v. record { refusal = 0; running = number_at T v.entry (running in_force T v.entry); state = v })
        (ap (λ x. start x u) (running_same u.entry))
        ∙ ap (λ x. record { refusal = 0; running = number_at T t.entry x; state = t }) (running_same t.entry)

    pub step_same : (c : Call) → step in_force T s c ≡ step above_system T s c
    unfolding step
    step_same c = ap (answer in_force T s c) (ruling_same c) ∙ answer_same c (ruling above_system T s c)

  -- every list of calls, on any state, is answered as under the former rule
  pub answers_same : (s : State) (calls : List Call) → answers in_force T s calls ≡ answers above_system T s calls
  unfolding answers
  answers_same s [] = refl
  answers_same s (c ∷ cs) =
      ap (λ r. (r.refusal, r.running) ∷ answers in_force T r.state cs) (step_same s c)
      ∙ ap (λ l. ((step above_system T s c).refusal, (step above_system T s c).running) ∷ l) (answers_same (step above_system T s c).state cs)
