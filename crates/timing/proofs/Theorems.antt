-- What is proved: the work of every job is done in time, one that is completed promptly is over in time, and a release a period later finds it gone.
use Prim.Native.Nat.{ℕ, zero, suc, ◌+◌, ◌-◌, ◌≤◌, ◌<◌}
use mathlib.Core.Path.{◌≡◌, refl, sym, ap, subst, fun_ext, ◌∙◌}
use mathlib.Core.Bool.{Bool, true, false, not, ◌&&◌}
use mathlib.Core.List.{List}
use native.Mathlib.Omega.{arith}
use native.Mathlib.Decide.{ℕ_discrete}
use lib.Dec.{ltb}
use borrow.Author.Tests.{ltb-true, not-false}
use Rattle.searches.proofs.Searching.{all_fails}
use Rattle.searches.proofs.Testing.{and_true}
use Rattle.table.specs.declared.Shape.{Shape}
use Rattle.std.specs.Prelude.{Ok}
use Rattle.table.specs.Reading.{read_table}
use Rattle.table.specs.WellFormed.{task_of}
use Rattle.table.proofs.Accepted.{well_formed}
use Rattle.rounds.specs.Answer as theory
use Rattle.rounds.specs.Answer.{Solution}
use Rattle.rounds.specs.System.{deadline}
use Rattle.rounds.specs.Vector.{at}
use Rattle.rounds.specs.Rounds.{analysis}
use Rattle.analysis.specs.declared.TaskAnswer.TheVariants.{Bound}
use Rattle.analysis.specs.Analysing.{own_system, verdict_of, analysed}
use Rattle.analysis.specs.Answering.{answer_at}
use Rattle.analysis.proofs.Right.{each_value}
use Rattle.analysis.proofs.Replies.{yes_solves, bound_says}
use Rattle.protocol.specs.Tasks.{Table, priority, setting}
use Rattle.protocol.specs.State.{State, is_asleep}
use Rattle.protocol.specs.Running.{in_force}
use Rattle.protocol.specs.Checks.{Call, ruling}
use Rattle.protocol.specs.Step.{step}
use Rattle.protocol.specs.Trace.{Event, released, ended, outcome, after, event, Has}
use Rattle.protocol.proofs.Listed.{is, is_so, never, never_so}
use Rattle.protocol.proofs.Former.{above_system, ruling_same, step_same}
use Rattle.scheduler.specs.declared.Scheduler.{Scheduler}
use Rattle.scheduler.specs.declared.Reply.{Reply}
use Rattle.scheduler.specs.View.{table_of}
use Rattle.scheduler.specs.Replies.{running_of}
use Rattle.scheduler.specs.Fresh.{fresh_of}
use Rattle.arrays.specs.Denials.{refusal_number}
use Rattle.scheduler.specs.Driven.{Driven}
use Rattle.scheduler.proofs.Beginning.{byte_of, fresh_accepted}
use Rattle.scheduler.proofs.Theorems.{state_is, event_is, running_is, refusal_is}
use Rattle.timing.specs.Statement.{Clock, At, calls_by, priority_in, seen, seen_under, executes, count, Obeys, Prompt}
use Rattle.timing.specs.Statement.{DoneInTime, OverWithin, InTime, ReleasedAgain, AtTheInstant, ReleasedInTime}
use Rattle.timing.proofs.Instants.{first_rises, instant}
use Rattle.timing.proofs.Jobs.{before_release}
use Rattle.timing.proofs.Figures.{own_figures}
use Rattle.timing.proofs.Given.{Given, ev, tick, exec, rest, task, value, There, sight, value_room}
use Rattle.timing.proofs.Pace.{Done, Before}
use Rattle.timing.proofs.Start.{begin}
use Rattle.timing.proofs.Window.{Window}
use Rattle.timing.proofs.Charges.{no_window}
use Rattle.timing.proofs.Blocking.{low_bounded}
use Rattle.timing.proofs.Releases.{refused_at}

-- ---- no job is late

-- of no tick is a job the first that was due and of which something is left
none_late : (G : Given) (m : ℕ) → Before G m
none_late G zero i a r n lt h due l x = absurd (omega arith)
none_late G (suc m) i a r n lt h due l x =
    go (none_late G m) (ℕ_discrete (r + n) m) (ℕ_discrete (count (exec G i) r n) (task G i).run) (ℕ_discrete (count (rest G i) r n) (task G i).sleep)
  where
    none : r + n ≡ m → Before G m → (Done G i r n → ⊥) → ⊥
    none q more left =
        let start = begin G i lt a (before_release G.accepted G.calls a i lt x.began) in
        let w = instant G.clock start.index (suc r) (omega (arith, start.early, h.till)) in
        let length : m - r ≡ n = omega arith in
        let D : Window G m i a r w.0 =
        record {
          before = more;
          inside = lt;
          release = x.began;
          when = h;
          due = omega arith;
          left = λ f. left (subst (Done G i r) length f);
          late = subst (λ y. There G i a (tick G y)) q x;
          start = start;
          from = w.2;
        } in
        no_window D (low_bounded D)

    go : Before G m → Dec (r + n ≡ m) → Dec (count (exec G i) r n ≡ (task G i).run) → Dec (count (rest G i) r n ≡ (task G i).sleep) → Done G i r n
    go more (no ne) d e = more i a r n lt h due (omega arith) x
    go more (yes q) (yes d) (yes e) = (d, e)
    go more (yes q) (no d) e = absurd (none q more (λ f. d f.0))
    go more (yes q) (yes d) (no e) = absurd (none q more (λ f. e f.1))

-- so of a job that is there in a tick from its due one on nothing is left
done_in_time : (G : Given) (i a r n : ℕ) → i < G.table.size → At G.clock a r → value G i ≤ n → There G i a (tick G (r + n)) → Done G i r n
done_in_time G i a r n lt h due x = none_late G (suc (r + n)) i a r n lt h due (omega arith) x

-- and one that is completed promptly is over in time: a call up to then ended it
over_in_time : (G : Given) (i a r : ℕ) → i < G.table.size → ev G a ≡ released (priority G.table i) → At G.clock a r
    → Prompt G.bytes G.clock (sight G) i a r → OverWithin G.clock (sight G) (priority G.table i) a r (value G i)
over_in_time G i a r lt e h P = go (never (ev G) end a due) refl
  where
    end : Event
    end = ended (priority G.table i)

    due : ℕ
    due = tick G (r + value G i)

    made : a < due
    made = omega (arith, h.till, first_rises G.clock (suc r) (suc (r + value G i)) (omega arith))

    -- it would have executed in less than C, and in C
    there_not : There G i a due → ⊥
    there_not x =
        let same = G.figures.priority_is i lt in
        omega (
          arith,
          (done_in_time G i a r (value G i) lt h (omega arith) x).0,
          ap (λ p. count (executes G.clock (sight G) p) r (value G i)) same,
          P (value G i) (subst (λ p. Has (ev G) p a due) same x),
        )

    go : (b : Bool) → never (ev G) end a due ≡ b → OverWithin G.clock (sight G) (priority G.table i) a r (value G i)
    go true t = absurd (there_not (record { began = e; made = made; going = never_so (ev G) end a due t }))
    go false t =
        let w = all_fails (λ j. not (ltb a j && is (ev G j) end)) due t in
        let c = and_true (ltb a w.0) (is (ev G w.0) end) (not-false _ w.2) in
        (w.0, ltb-true a w.0 c.0, w.1, is_so (ev G w.0) end c.1)

-- ---- from the bytes of a table

module _ (s : List ℕ) (h : Shape) (accepted : read_table s ≡ Ok h) where
  -- the scheduler's table
  abbrev T : Table
  T = table_of (fresh_of s h)

  -- where every task has a bound, the final values solve the equations
  solved : verdict_of s h ≡ true → (i : ℕ) → i < h.tasks
      → Solution ((own_system s h).side i (analysis (own_system s h)).vector) (task_of s i).deadline (at (analysis (own_system s h)).vector i)
  solved yes-all i lt =
      let w = yes_solves s h accepted yes-all i lt in
      subst (Solution ((own_system s h).side i (analysis (own_system s h)).vector) (task_of s i).deadline) (sym w.2) w.3

  module _ (calls : ℕ → Call) (K : Clock) (O : Obeys s h K (seen_under in_force T calls)) where
    -- all that the argument rests on
    abbrev given : verdict_of s h ≡ true → Given
    given yes-all =
        let W = well_formed s h accepted in
        record {
          bytes = s;
          shape = h;
          well = W;
          table = T;
          accepted = fresh_accepted s h W;
          figures = own_figures s h W;
          calls = calls;
          clock = K;
          obeys = O;
          values = (analysis (own_system s h)).vector;
          solved = solved yes-all;
        }

    -- where a task is told a bound every task has one, and it is the task's value
    told_value : (allowance i v : ℕ) → i < h.tasks → answer_at (analysed s allowance) i ≡ Bound v
        → (yes-all : verdict_of s h ≡ true) × (value (given yes-all) i ≡ v)
    told_value allowance i v lt told =
        let w = bound_says s h accepted allowance i v lt told in
        (w.0, each_value s h accepted i lt ∙ ap (theory.value (deadline (own_system s h) i)) w.1)

    -- a task's priority is that of its record
    same : (i : ℕ) → i < h.tasks → priority T i ≡ (task_of s i).priority
    same = (own_figures s h (well_formed s h accepted)).priority_is

    -- in a tick from the bound on in which a job is there nothing is left of it
    pub work_in_time : (allowance : ℕ) → DoneInTime s h allowance K (seen_under in_force T calls)
    work_in_time allowance i a r v n lt told p due x =
        let w = told_value allowance i v lt told in
        let there = subst (λ q. Has (event in_force T calls) q a (calls_by K (r + n))) (sym (same i lt)) x in
        let f = done_in_time (given w.0) i a r n lt p (omega (arith, w.1)) there in
        (ap (λ q. count (executes K (seen_under in_force T calls) q) r n) (sym (same i lt)) ∙ f.0, f.1)

    -- a job that is completed promptly is over within the bound that its task is told
    pub in_time : (allowance : ℕ) → InTime s h allowance K (seen_under in_force T calls)
    in_time allowance i a r v lt told e p P =
        let w = told_value allowance i v lt told in
        subst (λ q. OverWithin K (seen_under in_force T calls) q a r v) (same i lt)
        (subst (OverWithin K (seen_under in_force T calls) (priority T i) a r) w.1
        (over_in_time (given w.0) i a r lt (e ∙ sym (ap released (same i lt))) p P))

    -- and a release T or more after it is refused with 12 only where its end is called later at that instant
    pub released_in_time : (allowance : ℕ)
        → ReleasedInTime s h allowance calls K (seen_under in_force T calls) (λ k. (step in_force T (after in_force T calls k) (calls k)).refusal)
    released_in_time allowance i a b t u v lt told again P refused =
        let w = told_value allowance i v lt told in
        subst (λ q. AtTheInstant K (seen_under in_force T calls) q b t u v (task_of s i).period) (same i lt)
        (refused_at (fresh_accepted s h (well_formed s h accepted)) calls K lt
        (subst (λ q. ReleasedAgain calls K (seen_under in_force T calls) q a b t u (task_of s i).period) (sym (same i lt)) again) refused
        (omega (arith, w.1, (value_room (given w.0) i lt).1))
        (subst (λ q. OverWithin K (seen_under in_force T calls) q a t v) (sym (same i lt))
        (in_time allowance i a t v lt told again.last again.last_at P)))

-- ---- the scheduler's own calls

module _ {s : List ℕ} {h : Shape} {calls : ℕ → Call} {S : ℕ → Scheduler} {R : ℕ → Reply} (D : Driven s h calls S R) where
  -- what is seen of them is what is seen of the machine's
  pub seen_is : seen calls S R ≡ seen_under in_force (table_of (fresh_of s h)) calls
  seen_is =
      let events = fun_ext (event_is D) in
      let names = fun_ext (λ k. ap priority_in (running_is D k)) in
      let sleepers = fun_ext (λ k. fun_ext (λ i. ap (λ x. is_asleep (x.entry i).status) (state_is D k))) in
      λ x. record { event = events x; named = names x; asleep = sleepers x }

  module _ (K : Clock) (O : Obeys s h K (seen calls S R)) where
    -- in a tick from the bound on in which a job is there nothing is left of it
    pub calls_done_in_time : (allowance : ℕ) → DoneInTime s h allowance K (seen calls S R)
    calls_done_in_time allowance =
        subst (DoneInTime s h allowance K) (sym seen_is) (work_in_time s h D.reads calls K (subst (Obeys s h K) seen_is O) allowance)

    -- a job that is completed promptly is over within the bound that its task is told
    pub calls_in_time : (allowance : ℕ) → InTime s h allowance K (seen calls S R)
    calls_in_time allowance =
        subst (InTime s h allowance K) (sym seen_is) (in_time s h D.reads calls K (subst (Obeys s h K) seen_is O) allowance)

    -- and a release T or more after it is refused with 12 only where its end is called later at that instant
    pub calls_released_in_time : (allowance : ℕ) → ReleasedInTime s h allowance calls K (seen calls S R) (λ k. refusal_number (R k).refusal)
    calls_released_in_time allowance =
        subst (λ X. ReleasedInTime s h allowance calls K X (λ k. refusal_number (R k).refusal)) (sym seen_is)
        (subst (ReleasedInTime s h allowance calls K (seen_under in_force (table_of (fresh_of s h)) calls)) (sym (fun_ext (refusal_is D)))
        (released_in_time s h D.reads calls K (subst (Obeys s h K) seen_is O) allowance))

-- ---- the former rule

module _ (s : List ℕ) (h : Shape) (accepted : read_table s ≡ Ok h) (zeros : (i : ℕ) → i < h.tasks → (task_of s i).setting ≡ 0)
    (calls : ℕ → Call)
  where
    -- the scheduler's table, and that its settings are 0
    abbrev bare : Table
    bare = table_of (fresh_of s h)

    bare_zeros : (i : ℕ) → i < h.tasks → setting bare i ≡ 0
    bare_zeros i lt = byte_of s h (well_formed s h accepted) 2 i lt ∙ zeros i lt

    -- the states are the same
    states_same : (k : ℕ) → after in_force bare calls k ≡ after above_system bare calls k
    unfolding after
    states_same zero = refl
    states_same (suc k) =
        ap (λ (x : State). (step in_force bare x (calls k)).state) (states_same k)
        ∙ ap (λ r. r.state) (step_same (fresh_accepted s h (well_formed s h accepted)) bare_zeros (after above_system bare calls k) (calls k))

    -- and so is all that is seen
    former_seen : seen_under in_force bare calls ≡ seen_under above_system bare calls
    former_seen =
        let A = fresh_accepted s h (well_formed s h accepted) in
        let events = fun_ext (λ k.
        ap (λ x. outcome (ruling in_force bare x (calls k)) (calls k)) (states_same k)
        ∙ ap (λ r. outcome r (calls k)) (ruling_same A bare_zeros (after above_system bare calls k) (calls k))) in
        let names = fun_ext (λ k.
        ap (λ x. priority_in (running_of (step in_force bare x (calls k)).running)) (states_same k)
        ∙ ap (λ r. priority_in (running_of r.running)) (step_same A bare_zeros (after above_system bare calls k) (calls k))) in
        let sleepers = fun_ext (λ k. fun_ext (λ i. ap (λ x. is_asleep (x.entry i).status) (states_same k))) in
        λ x. record { event = events x; named = names x; asleep = sleepers x }

    -- so where all settings are 0 it was the same under the former rule
    pub former_in_time : (K : Clock) → Obeys s h K (seen_under above_system bare calls) → (allowance : ℕ)
        → DoneInTime s h allowance K (seen_under above_system bare calls) × InTime s h allowance K (seen_under above_system bare calls)
    former_in_time K O allowance =
        let obeys = subst (Obeys s h K) (sym former_seen) O in (
          subst (DoneInTime s h allowance K) former_seen (work_in_time s h accepted calls K obeys allowance),
          subst (InTime s h allowance K) former_seen (in_time s h accepted calls K obeys allowance),
        )
