-- What is proved of the lock scheduler: its refusals change nothing, its waits are short, it is idle only behind sleepers, and its job numbers say
-- whose call it is.
use mathlib.Core.Path.{◌≡◌, refl, sym, ap, ◌∙◌}
use mathlib.Core.Logic.{◌↔◌}
use mathlib.Core.Bool.{true}
use Prim.Native.Nat.{ℕ, suc, ◌%◌, ◌<◌}
use native.Mathlib.Omega.{arith}
use borrow.Author.Tests.{eq-eqb}
use Rattle.searches.specs.Searches.{Place, nowhere, at, only}
use Rattle.searches.proofs.Testing.{impossible}
use Rattle.protocol.specs.Tasks.{Table, priority, setting}
use Rattle.protocol.specs.State.{none, asleep, State, serial}
use Rattle.protocol.specs.Running.{system_priority, Rule, in_force, running}
use Rattle.protocol.specs.Fit.{fit}
use Rattle.protocol.specs.Checks.{Call, release, resume, lock, unlock, suspend, complete, Ruling, refuse, grant, ruling}
use Rattle.protocol.specs.Step.{idle, job, number_at, answer, step}
use Rattle.protocol.specs.Accepted.{Accepted, Lawful}
use Rattle.protocol.specs.Trace.{Event, released, after, event}
use Rattle.protocol.specs.ShortWaits.{Counts, always, while_above, past_sleepers, ShortWaits}
use Rattle.protocol.specs.Idling.{Idle}
use Rattle.protocol.specs.Numbers.{Entitled, releases_of, releases, Wraps}
use Rattle.protocol.proofs.Runner.{lawful, runs}
use Rattle.protocol.proofs.Lows.{held_once, past_above}
use Rattle.protocol.proofs.Fitness.{sound_fit}
use Rattle.protocol.proofs.Granted.{Caller, Granted, granted}
use Rattle.protocol.proofs.Runs.{Run, inv, calls_run}
use Rattle.protocol.proofs.Exclusion.{one_section_open, finds_free, finds_unheld}
use Rattle.protocol.proofs.Meetings.{Fair, only_older, one_to_a_wait, above_setting}
use Rattle.protocol.proofs.Counting.{one_more_than_sleeps}
use Rattle.protocol.proofs.Idling.{idle_state, someone_sleeps}
use Rattle.protocol.proofs.Numbering.{next_counts, wraps}

-- ---- refusals

-- a refused call leaves the state as it was
pub refused_keeps : (E : Rule) (T : Table) (s : State) (c : Call) (n : ℕ) → ruling E T s c ≡ refuse n → (step E T s c).state ≡ s
unfolding step
refused_keeps E T s c n e = rw e

-- and its reply has the refusal
pub refused_says : (E : Rule) (T : Table) (s : State) (c : Call) (n : ℕ) → ruling E T s c ≡ refuse n → (step E T s c).refusal ≡ n
unfolding step
refused_says E T s c n e = rw e

-- ---- short waits

-- they are short in any run, where in a state that counts a job that sees a lower one run is above the system priority
pub run_short_waits : {E : Rule} {C : Counts} {T : ℕ → Table} {S : ℕ → State} {ev : ℕ → Event} → Fair E C T S ev → Run E T S ev → ShortWaits E C T S ev
run_short_waits F G = record {
  one_section_open = one_section_open G;
  one_holder = λ k. held_once (G.accepted k) (inv G k).sound;
  finds_free = finds_free G;
  finds_unheld = finds_unheld G;
  only_older = only_older G;
  one_to_a_wait = one_to_a_wait F G;
  one_more_than_sleeps = one_more_than_sleeps F G;
  above_setting = above_setting F G;
}

module _ (E : Rule) (L : Lawful E) (T : Table) (A : Accepted T) (calls : ℕ → Call) where
  -- under any lawful rule waits are short, counting the states in which the job is above the system priority
  pub short_waits : ShortWaits E while_above (λ k. T) (after E T calls) (event E T calls)
  short_waits = run_short_waits (λ p q k v c. c) (calls_run L A calls)

  -- who sees a lower job run, and is past all sleepers, is above the system priority
  past_fair : (p q k : ℕ) → running E T (after E T calls k).entry ≡ at q → priority T q < p → past_sleepers T (after E T calls k).entry p
      → system_priority T (after E T calls k).entry < p
  past_fair p q k e lt past = past_above L A (inv (calls_run L A calls) k).sound (runs e) p lt past

  -- so they are counting the states in which it is past all sleepers
  pub short_waits_past : ShortWaits E past_sleepers (λ k. T) (after E T calls) (event E T calls)
  short_waits_past = run_short_waits (λ p q k v c. past_fair p q k v.runs v.lower c) (calls_run L A calls)

  -- and where all settings are 0 counting every state
  pub short_waits_always : ((i : ℕ) → i < T.size → setting T i ≡ 0) → ShortWaits E always (λ k. T) (after E T calls) (event E T calls)
  short_waits_always zeros =
      run_short_waits (λ p q k v c. past_fair p q k v.runs v.lower (λ j lt z. omega (arith, v.lower, zeros j lt))) (calls_run L A calls)

-- no state that calls reach from a fresh scheduler is unfit
pub never_unfit : (E : Rule) → Lawful E → (T : Table) → Accepted T → (calls : ℕ → Call) (k : ℕ) → fit T (after E T calls k) ≡ true
never_unfit E L T A calls k = sound_fit A (inv (calls_run L A calls) k).sound

-- ---- idling

module _ (T : Table) (A : Accepted T) (calls : ℕ → Call) (k : ℕ) where
  -- under the rule in force nothing runs only where no section is open, and each unfinished job sleeps or is behind one that does
  pub idle_only : running in_force T (after in_force T calls k).entry ≡ nowhere → Idle T (after in_force T calls k)
  idle_only = idle_state A (inv (calls_run lawful A calls) k).sound

  -- so where some job is unfinished and none sleeps, something runs
  pub never_idle : (i : ℕ) → (((after in_force T calls k).entry i).status ≡ none → ⊥)
      → ((j : ℕ) → ((after in_force T calls k).entry j).status ≡ asleep → ⊥) → running in_force T (after in_force T calls k).entry ≡ nowhere → ⊥
  never_idle i u n e = let w = someone_sleeps (idle_only e) i u in n w.0 w.1

-- a call on a fit state answers the number of the job that runs after it
pub answers_running : (E : Rule) (T : Table) (s : State) (c : Call) → fit T s ≡ true
    → (step E T s c).running ≡ number_at T (step E T s c).state.entry (running E T (step E T s c).state.entry)
unfolding step
answers_running E T s c f = go (ruling E T s c)
  where
    go : (r : Ruling) → (answer E T s c r).running ≡ number_at T (answer E T s c r).state.entry (running E T (answer E T s c r).state.entry)
    go (refuse n) = rw f
    go (grant i) = refl

-- so it answers idle only where nothing runs
pub answered_idle : (E : Rule) (T : Table) (s : State) (c : Call) → fit T s ≡ true → (step E T s c).running ≡ idle
    → running E T (step E T s c).state.entry ≡ nowhere
answered_idle E T s c f e = none_at (running E T (step E T s c).state.entry) (sym (answers_running E T s c f) ∙ e)
  where
    none_at : (p : Place) → number_at T (step E T s c).state.entry p ≡ idle → p ≡ nowhere
    none_at nowhere q = refl
    none_at (at i) q = absurd (impossible cc)

-- ---- job numbers

-- only the one who is entitled to a call has it accepted
pub entitled : (E : Rule) (T : Table) (s : State) (c : Call) (i : ℕ) → ruling E T s c ≡ grant i → Entitled E T s c
entitled E T s c i e = go c (granted E T s c i e)
  where
    number : {p n : ℕ} → Caller E T s p n i → number_at T s.entry (running E T s.entry) ≡ job p n
    number g = rw (g.runs, g.names.priority_is, g.names.serial_is)

    go : (d : Call) → Granted E T s d i → Entitled E T s d
    go (release p) g = tt
    go (resume p n) g = (i, g.1, g.2, rw (g.0.priority_is, g.0.serial_is))
    go (lock p n r) g = number g.0
    go (unlock p n r) g = number g.0
    go (suspend p n) g = number g.0
    go (complete p n) g = number g.0

-- the release that n accepted releases of its task precede takes the serial n, wrapped at 65,536
pub serial_given : (E : Rule) (T : Table) → Accepted T → (calls : ℕ → Call) (i a : ℕ) → i < T.size → event E T calls a ≡ released (priority T i)
    → serial ((after E T calls (suc a)).entry i) ≡ releases (event E T calls) (priority T i) a % 65536
unfolding releases
serial_given E T A calls i a lt e =
    let one : only (releases_of (priority T i) (event E T calls a)) 1 ≡ 1 =
    ap (λ x. only (releases_of (priority T i) x) 1) e ∙ ap (λ b. only b 1) (eq-eqb (priority T i) (priority T i) refl) in
    omega (arith, next_counts E A calls i lt (suc a))

-- so two releases of a task take one serial just when their counts differ by a multiple of 65,536
pub number_again : (E : Rule) (T : Table) → Accepted T → (calls : ℕ → Call) (i a b : ℕ) → i < T.size
    → event E T calls a ≡ released (priority T i) → event E T calls b ≡ released (priority T i)
    → (serial ((after E T calls (suc a)).entry i) ≡ serial ((after E T calls (suc b)).entry i))
    ↔ Wraps (releases (event E T calls) (priority T i) a) (releases (event E T calls) (priority T i) b)
number_again E T A calls i a b lt e f = rw (serial_given E T A calls i a lt e, serial_given E T A calls i b lt f) (wraps _ _)
