-- The two ends of a call: it is refused, or it is granted and the running job is started.
use Rattle.std.proofs.Common.{◌≡◌, ◌≢◌, ℕ, ◌<◌, ◌≤◌, Bool, true, false, List, length, None, refl, sym, ap, subst, ◌∙◌, arith, length-set, get_or-set_same, get_or-set_other, eq-eqb}
use Rattle.searches.specs.Searches.{Place, nowhere, at}
use Rattle.protocol.specs.Tasks.{Table}
use Rattle.protocol.specs.State.{State}
use Rattle.protocol.specs.Running.{in_force, running}
use Rattle.protocol.specs.Fit.{fit}
use Rattle.protocol.specs.Checks.{Call, refuse, grant, demand, checks}
use Rattle.protocol.specs.Acting.{begun, act, start, settle}
use Rattle.protocol.specs.Step.{number_at, if_fit, answer, step}
use Rattle.protocol.proofs.Runner as runner
use Rattle.arrays.specs.declared.denial.Denial.{Denial}
use Rattle.arrays.specs.declared.denial.Denial.TheVariants.{NoTask, Unfinished, Stranger, NoUse, Held, Reached, NotHeld, Inside, Sleepless, NoSleeper, Unfit}
use Rattle.arrays.specs.Denials.{denial_number, denial_back}
use Rattle.arrays.specs.Stores.{started_at}
use Rattle.arrays.specs.View.{tasks_of}
use Rattle.scheduler.specs.declared.Scheduler.{Scheduler}
use Rattle.scheduler.specs.View.{Sized, table_of, entry_of, state_of}
use Rattle.scheduler.specs.Rulings.{ruling_on}
use Rattle.scheduler.specs.Beside.{Beside}
use Rattle.scheduler.specs.Replies.{running_of, written, replied_by, runs, runs_beside, refused_reply, unfit_reply, with_started, settled_reply, replied}
use Rattle.scheduler.proofs.Written.{beside_self, written_again}
use Rattle.scheduler.proofs.Settles.{running_settled}
use Rattle.scheduler.proofs.Storing.{stored}
use Rattle.scheduler.proofs.Viewing.{Fit, Tested, tested_fit}
use Rattle.scheduler.proofs.Naming.{Named, checks_named, unfit_is}

-- ---- refused

-- who runs is answered beside every refusal but that of an unfit state
runs_fit : (s : Scheduler) (d : Denial) → d ≢ Unfit → runs_beside d s ≡ runs s
runs_fit s NoTask n = refl
runs_fit s Unfinished n = refl
runs_fit s Stranger n = refl
runs_fit s NoUse n = refl
runs_fit s Held n = refl
runs_fit s Reached n = refl
runs_fit s NotHeld n = refl
runs_fit s Inside n = refl
runs_fit s Sleepless n = refl
runs_fit s NoSleeper n = refl
runs_fit s Unfit n = absurd (n refl)

-- as the machine answers it
runs_told : (s : Scheduler) (c : Call) (d : Denial) → refuse (denial_number d) ≡ ruling_on s c
    → runs_beside d s ≡ running_of (if_fit (fit (table_of s) (state_of s)) (number_at (table_of s) (entry_of s) (running in_force (table_of s) (entry_of s))))
runs_told s c d e = go (fit (table_of s) (state_of s)) e
  where
    go : (b : Bool) → refuse (denial_number d) ≡ demand 26 b (checks in_force (table_of s) (state_of s) c)
        → runs_beside d s ≡ running_of (if_fit b (number_at (table_of s) (entry_of s) (running in_force (table_of s) (entry_of s))))
    go true q =
        let named : Named (refuse (denial_number d)) = subst Named (sym q) (checks_named in_force (table_of s) (state_of s) c) in
        runs_fit s d (λ u. let n = ap denial_number u in omega (arith, named.1))
    go false q = let n : denial_number d ≡ 26 = cc in rw (unfit_is d n)

-- a refusal leaves the state as it was, and answers who runs
pub refused_replied : {s : Scheduler} (c : Call) {d : Denial} → Sized s → refuse (denial_number d) ≡ ruling_on s c → refused_reply s d ≡ replied s c
unfolding step
refused_replied {s} c {d} Z e =
    subst (λ q. refused_reply s d ≡ replied_by s (answer in_force (table_of s) (state_of s) c q)) e
    (λ i. record { refusal = sym (denial_back d) i; running = runs_told s c d e i; state = written_again Z (beside_self s) i })

-- so answers the code on an unfit state
pub unfit_answered : (s : Scheduler) (c : Call) (b : Bool) → Sized s → Tested s b → b ≡ false → unfit_reply s ≡ replied s c
unfit_answered s c b Z e h = let unfit : fit (table_of s) (state_of s) ≡ false = tested_fit s b e ∙ h in refused_replied c Z (rw unfit)

-- ---- granted

-- What a granted call has done, from the scheduler s to t: the machine's change of the job at the place i, and nothing that the view doesn't show.
pub record Done (s t : Scheduler) (c : Call) (i : ℕ) : Type 0 where
  pub fits : Fit s
  pub grants : grant i ≡ ruling_on s c
  pub acts : state_of t ≡ act (table_of s) (state_of s) c i
  pub beside : Beside s t

-- the started marks come after all else
starts_beside : {s t : Scheduler} (started : List Bool) → Beside s t → Beside s (with_started t started)
starts_beside started B = record { same = B.same; numbers = B.numbers; places = B.places; resources = B.resources }

-- and keep the lengths
started_sized : {t : Scheduler} (started : List Bool) → length started ≡ 32 → Sized t → Sized (with_started t started)
started_sized started e Z = record {
  priorities = Z.priorities;
  settings = Z.settings;
  most = Z.most;
  uses = Z.uses;
  states = Z.states;
  started = e;
  sleeps = Z.sleeps;
  opened = Z.opened;
  held = Z.held;
  serials = Z.serials;
  places = Z.places;
  resources = Z.resources;
}

-- A place is nowhere, or one in the arrays.
abbrev Below : Place → Type 0
Below nowhere = Unit {0}
Below (at i) = i < 32

-- the mark of a job, set
started_view : (t : Scheduler) (p : Place) → Sized t → Below p
    → (state_of (with_started t (started_at t.entries.started p)) ≡ start p (state_of t)) × (length (started_at t.entries.started p) ≡ 32)
started_view t nowhere Z h = (refl, Z.started)
started_view t (at i) Z h = (
  ap (λ f. record { entry = f; sections = (state_of t).sections })
      (stored (entry_of t) _ i (begun (entry_of t i))
      (rw (get_or-set_same t.entries.started i true false (omega (arith, Z.started, h))))
      (λ k ne. rw (get_or-set_other t.entries.started i k true false ne))),
  length-set t.entries.started i true ∙ Z.started,
)

-- a started job has the same number
number_started : (T : Table) (s : State) (p : Place) → number_at T (start p s).entry p ≡ number_at T s.entry p
number_started T s nowhere = refl
number_started T s (at i) = rw (eq-eqb i i refl)

-- the running job is one of the tasks
running_below : (s : Scheduler) → s.tasks.count ≤ 32 → Below (running in_force (table_of s) (entry_of s))
running_below s few = go (running in_force (table_of s) (entry_of s)) refl
  where
    go : (p : Place) → running in_force (table_of s) (entry_of s) ≡ p → Below p
    go nowhere e = tt
    go (at i) e = omega (arith, (runner.runs {E = in_force} {T = table_of s} {s = state_of s} e).inside)

-- a granted call answers who runs after it, and that job is started
pub granted_replied : {s t : Scheduler} {c : Call} {i : ℕ} → Sized t → Done s t c i → settled_reply t ≡ replied s c
unfolding step
granted_replied {s} {t} {c} {i} Z D =
    let T = table_of s in
    let marks = started_at t.entries.started (running in_force (table_of t) (entry_of t)) in
    let same : table_of t ≡ T = ap tasks_of D.beside.same in
    let few : t.tasks.count ≤ 32 = rw D.beside.same D.fits.few in
    let v = started_view t (running in_force (table_of t) (entry_of t)) Z (running_below t few) in
    let number : runs t ≡ running_of (number_at T (entry_of t) (running in_force T (entry_of t))) =
    ap (λ U. running_of (number_at U (entry_of t) (running in_force U (entry_of t)))) same in
    let next : state_of (with_started t marks) ≡ settle in_force T (state_of t) = v.0 ∙ ap (λ U. settle in_force U (state_of t)) same in
    let still : number_at T (settle in_force T (state_of t)).entry (running in_force T (settle in_force T (state_of t)).entry)
    ≡ number_at T (entry_of t) (running in_force T (entry_of t)) =
    ap (number_at T (settle in_force T (state_of t)).entry) (running_settled T D.fits.below (state_of t))
    ∙ number_started T (state_of t) (running in_force T (entry_of t)) in
    let running : runs t ≡ running_of (answer in_force T (state_of s) c (grant i)).running = rw (← D.acts) (number ∙ ap running_of (sym still)) in
    let state : with_started t marks ≡ written s (answer in_force T (state_of s) c (grant i)).state =
    rw (← D.acts) (written_again (started_sized marks v.1 Z) (starts_beside marks D.beside) ∙ ap (written s) next) in
    subst (λ q. settled_reply t ≡ replied_by s (answer in_force T (state_of s) c q)) D.grants
    (λ j. record { refusal = None; running = running j; state = state j })
