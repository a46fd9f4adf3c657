-- A well-formed table is accepted: the walk meets at each record what the rules ask of it. With `well_formed`, the two are the same.
use Prim.Native.Nat.{ℕ, zero, suc, ◌+◌, ◌*◌, ◌-◌, ◌≤◌, ◌<◌}
use mathlib.Core.Path.{◌≡◌, refl, sym, ap, subst, ◌∙◌}
use mathlib.Core.Bool.{Bool, true, false, cond, ◌&&◌, ◌||◌}
use mathlib.Core.List.{List}
use lib.Dec.{leb, ltb, eqb}
use lib.ListN.{get_or, length}
use native.Mathlib.Omega.{arith}
use native.Mathlib.Decide.{ℕ_discrete, dec_lt}
use borrow.Author.Tests.{le-leb, lt-leb, lt-ltb, le-ltb, eq-eqb, ne_eqb}
use Rattle.searches.proofs.Sums.{sum_to_grows}
use Rattle.table.specs.declared.Shape.{Shape}
use Rattle.table.specs.declared.Task.{Task}
use Rattle.table.specs.declared.Use.{Use}
use Rattle.std.specs.Prelude.{Result, Ok, Err}
use Rattle.table.specs.declared.walk.Walk.{Walk}
use Rattle.table.specs.declared.Refusal.{Refusal}
use Rattle.table.specs.declared.Why.TheVariants.{Range}
use Rattle.table.specs.declared.walk.Step.{Step}
use Rattle.table.specs.declared.walk.Step.TheVariants.{On, Done}
use Rattle.table.specs.Fields.{task_at, use_at, word_at}
use Rattle.table.specs.Ranges.{task_fits, use_fits}
use Rattle.table.specs.Rules.{task_rule, use_rule, sum_after, with_task, with_use, stands}
use Rattle.table.specs.Reading.{start_walk, end_step, step_at, user_at, onward, read_from, read_table}
use Rattle.table.specs.WellFormed.{task_of, use_of, user_of, sections_by, TaskInRange, UseInRange, WellFormed}
use Rattle.table.proofs.Laws.{place_has, place_first}
use Rattle.table.proofs.Told.{TaskStands, UseStands}
use Rattle.table.proofs.Walked.{task_turn, use_turn_lem}
use Rattle.table.proofs.Accepted.{Seen, seen_start, seen_task, seen_use, sum_own}

-- ---- a record that stands passes its rule

-- a task in range fits
task_fits_lem : (t : Task) → TaskInRange t → task_fits t ≡ true
task_fits_lem t r =
    rw (
      le-leb 1 t.priority r.priority,
      lt-ltb t.setting t.priority r.setting,
      le-leb t.sleeps 64 r.sleeps,
      le-leb 1 t.run r.run,
      le-leb t.sleep 1000000 r.sleep,
      sleepless (ℕ_discrete t.sleeps 0),
      le-leb t.run t.deadline r.run_within,
      le-leb t.deadline t.period r.deadline_within,
      le-leb t.period 1000000 r.period,
    )
  where
    -- a task that sleeps, or has no sleep time
    sleepless : Dec (t.sleeps ≡ 0) → leb 1 t.sleeps || leb t.sleep 0 ≡ true
    sleepless (yes e) = rw (lt-leb 1 t.sleeps (omega arith), le-leb t.sleep 0 (omega (arith, r.sleepless e)))
    sleepless (no n) = rw (le-leb 1 t.sleeps (omega arith))

-- a use in range fits
use_fits_lem : (u : Use) → UseInRange u → use_fits u ≡ true
use_fits_lem u r =
    rw (
      le-leb 1 u.resource r.resource,
      le-leb u.resource 16 r.resource_most,
      le-leb 1 u.times r.times,
      le-leb 1 u.length r.length,
      le-leb u.length 1000000 r.length_most,
    )

-- the rule passes a task that may stand where it does
task_passes : (w : Walk) (t : Task) → TaskStands w t → task_rule w t ≡ stands
unfolding task_rule
task_passes w t st =
    rw (lt-leb 32 w.tasks st.few, lt-leb 1 w.uses (omega (arith, st.first)), lt-leb w.last t.priority st.below)
    (ap (λ (b : Bool). cond b stands (Err Range)) (task_fits_lem t st.range))

-- and of such a use
use_passes : (w : Walk) (u : Use) (i c : ℕ) → UseStands w u i c → use_rule w u i c ≡ stands
unfolding use_rule
use_passes w u i c st =
    rw (lt-leb w.tasks i st.owned, again (ℕ_discrete i w.user), le-ltb c (sum_after w u i) st.sum)
    (ap (λ (b : Bool). cond b stands (Err Range)) (use_fits_lem u st.range))
  where
    -- after a use of the same task, the resource rises
    again : Dec (i ≡ w.user) → eqb i w.user && ltb u.resource w.least ≡ false
    again (yes e) = rw (eq-eqb i w.user e, le-ltb u.resource w.least (st.rises e))
    again (no n) = rw (ne_eqb i w.user n)

-- ---- a step over such a record

module _ (s : List ℕ) (w : Walk) where
  -- over a task
  task_step_lem : get_or s w.at 0 ≡ 1 → w.at + 20 ≤ length s → task_rule w (task_at s w.at) ≡ stands → step_at s w ≡ Ok (On (with_task w (task_at s w.at)))
  task_step_lem k room e = task_turn s w k room ∙ rw e

  -- over a use
  use_step_lem : get_or s w.at 0 ≡ 2 → w.at + 8 ≤ length s → use_rule w (use_at s w.at) (user_at s w) (word_at s (20 * user_at s w + 4)) ≡ stands
      → step_at s w ≡ Ok (On (with_use w (use_at s w.at) (user_at s w)))
  use_step_lem k room e = use_turn_lem s w k room ∙ rw e

  -- at the end record
  pub end_step_lem : get_or s w.at 0 ≡ 3 → length s ≡ w.at + 1 → 1 ≤ w.tasks
      → step_at s w ≡ Ok (Done (record { tasks = w.tasks; uses_at = 20 * w.tasks; uses = w.uses }))
  unfolding step_at end_step
  end_step_lem k room some =
      rw (lt-leb (length s) w.at (omega arith), k, ne_eqb w.tasks 0 (λ z. omega arith), le-ltb 1 (length s - w.at) (omega arith))

-- ---- what lies ahead

-- the walk stands before a record of a table with the shape h: what it has seen, and what the records to come are to it
record Ahead (s : List ℕ) (h : Shape) (w : Walk) : Type 0 where
  seen : Seen s w
  tasks_left : w.tasks ≤ h.tasks
  uses_left : w.uses ≤ h.uses
  tasks_first : w.tasks < h.tasks → w.uses ≡ 0
  falls : w.tasks < h.tasks → (task_of s w.tasks).priority < w.last
  in_order : (k : ℕ) → w.uses ≤ k → k < h.uses → w.user ≤ user_of s h.tasks h.uses_at k
  rises : (k : ℕ) → w.uses ≤ k → k < h.uses → user_of s h.tasks h.uses_at k ≡ w.user → w.least ≤ (use_of s h.uses_at k).resource

-- one record further on, such a walk again
record Further (s : List ℕ) (h : Shape) (w : Walk) : Type 0 where
  next : Walk
  step : step_at s w ≡ Ok (On next)
  ahead : Ahead s h next
  on : w.at < next.at

-- before the first record
ahead_start : (s : List ℕ) (h : Shape) → WellFormed s h → Ahead s h start_walk
ahead_start s h f = record {
  seen = seen_start s;
  tasks_left = omega arith;
  uses_left = omega arith;
  tasks_first = λ l. refl;
  falls = λ l. omega (arith, f.priority_most 0 l);
  in_order = λ k a b. omega arith;
  rises = λ k a b e. omega arith;
}

-- over the next task
over_task : (s : List ℕ) (h : Shape) (w : Walk) → WellFormed s h → Ahead s h w → w.tasks < h.tasks → Further s h w
over_task s h w f g l =
    let t = task_at s w.at in
    let none = g.tasks_first l in
    let here : 20 * w.tasks ≡ w.at = omega (arith, g.seen.place) in
    let kind : get_or s w.at 0 ≡ 1 = ap (λ (a : ℕ). get_or s a 0) (sym here) ∙ f.task_kind w.tasks l in
    let room : w.at + 20 ≤ length s = omega (arith, f.whole, f.start) in
    let same : t.priority ≡ (task_of s w.tasks).priority = ap (λ (x : ℕ). (task_at s x).priority) (sym here) in
    let e : task_rule w t ≡ stands = task_passes w t (record {
      few = omega (arith, f.tasks_most);
      first = none;
      below = omega (arith, g.falls l);
      range = subst (λ a. TaskInRange (task_at s a)) here (f.task_range w.tasks l);
    }) in
    record {
      next = with_task w t;
      step = task_step_lem s w kind room e;
      ahead = record {
        seen = seen_task s w g.seen kind room e;
        tasks_left = omega arith;
        uses_left = g.uses_left;
        tasks_first = λ m. none;
        falls = λ m. omega (arith, f.falling w.tasks (w.tasks + 1) (omega arith) m);
        in_order = g.in_order;
        rises = g.rises;
      };
      on = omega arith;
    }

-- ---- a use

-- the shape of a table whose tasks the walk is past, with m uses
abbrev past_tasks : Walk → ℕ → Shape
past_tasks w m = record { tasks = w.tasks; uses_at = 20 * w.tasks; uses = m }

module _ (s : List ℕ) (w : Walk) (m : ℕ) (f : WellFormed s (past_tasks w m)) (g : Ahead s (past_tasks w m) w) (l : w.uses < m) where
  -- the task that the walk finds from the last use's on is the one with that priority among all
  user_same : user_at s w ≡ user_of s w.tasks (20 * w.tasks) w.uses
  user_same =
      let p = (use_at s w.at).priority in
      let i = user_of s w.tasks (20 * w.tasks) w.uses in
      let lt = f.owned w.uses l in
      let on = g.in_order w.uses (omega arith) l in
      let has = place_has w.tasks s 0 (use_of s (20 * w.tasks) w.uses).priority (omega arith) in
      place_first (w.tasks - w.user) s w.user p i on (omega arith) (has ∙ ap (λ (a : ℕ). (use_at s a).priority) (sym g.seen.place))
      (λ n b e. omega (arith, f.falling n i b lt, ap (λ (a : ℕ). (use_at s a).priority) g.seen.place))

  -- the use's resource, read at the walk's place, is that of the use with that number
  resource_same : (use_at s w.at).resource ≡ (use_of s (20 * w.tasks) w.uses).resource
  resource_same = ap (λ (a : ℕ). (use_at s a).resource) g.seen.place

  -- the use may stand where it does
  use_may_stand : UseStands w (use_at s w.at) (user_at s w) (word_at s (20 * user_at s w + 4))
  use_may_stand =
      let i = user_at s w in
      let lt : i < w.tasks = omega (arith, user_same, f.owned w.uses l) in
      let on : w.user ≤ i = omega (arith, user_same, g.in_order w.uses (omega arith) l) in
      record {
        owned = lt;
        rises = λ e. omega (arith, resource_same, g.rises w.uses (omega arith) l (sym user_same ∙ e));
        range = subst (λ a. UseInRange (use_at s a)) (sym g.seen.place) (f.use_range w.uses l);
        sum = omega (arith, sum_own s w g.seen lt on, sum_to_grows (sections_by s w.tasks (20 * w.tasks) i) (w.uses + 1) m (omega arith), f.sections i lt);
      }

  -- over the next use
  over_use : Further s (past_tasks w m) w
  over_use =
      let u = use_at s w.at in
      let i = user_at s w in
      let kind : get_or s w.at 0 ≡ 2 = ap (λ (a : ℕ). get_or s a 0) g.seen.place ∙ f.use_kind w.uses l in
      let room : w.at + 8 ≤ length s = omega (arith, f.whole, g.seen.place) in
      let e = use_passes w u i (word_at s (20 * i + 4)) use_may_stand in
      record {
        next = with_use w u i;
        step = use_step_lem s w kind room e;
        ahead = record {
          seen = seen_use s w g.seen kind room e;
          tasks_left = g.tasks_left;
          uses_left = omega arith;
          tasks_first = λ b. absurd (omega arith);
          falls = g.falls;
          in_order = λ k a b. omega (arith, user_same, f.in_order w.uses k (omega arith) b);
          rises = λ k a b q. omega (arith, resource_same, f.rising w.uses k (omega arith) b (sym user_same ∙ sym q));
        };
        on = omega arith;
      }

-- ---- the table

-- the shape of a well-formed table, seen from a walk past its tasks
shape_past : (s : List ℕ) (h : Shape) (w : Walk) → WellFormed s h → w.tasks ≡ h.tasks → h ≡ past_tasks w h.uses
shape_past s h w f e = rw (e, ← f.start)

module _ (s : List ℕ) (h : Shape) (f : WellFormed s h) where
  -- from each walk that stands before a record of the table, the rest of it is read to the end
  read_on : (k : ℕ) (w : Walk) → Ahead s h w → length s < w.at + k → read_from k s w ≡ Ok h
  unfolding read_from
  read_on zero w g enough = absurd (omega (arith, g.tasks_left, g.uses_left, g.seen.place, f.whole, f.start))
  read_on (suc k) w g enough = go (dec_lt w.tasks h.tasks) (dec_lt w.uses h.uses) (read_on k)
    where
      -- one record taken, and the rest read from there
      goes_on : ((n : Walk) → Ahead s h n → length s < n.at + k → read_from k s n ≡ Ok h) → Further s h w → read_from (suc k) s w ≡ Ok h
      goes_on more r =
          ap (λ (t : Result Step Refusal). onward t (read_from k s)) r.step ∙ more r.next r.ahead (omega (arith, r.on))

      -- a task is next, or a use, or the end record
      go : Dec (w.tasks < h.tasks) → Dec (w.uses < h.uses)
          → ((n : Walk) → Ahead s h n → length s < n.at + k → read_from k s n ≡ Ok h) → read_from (suc k) s w ≡ Ok h
      go (yes l) b more = goes_on more (over_task s h w f g l)
      go (no n) (yes l) more =
          let e = shape_past s h w f (omega (arith, g.tasks_left)) in
          goes_on more (subst (λ x. Further s x w) (sym e) (over_use s w h.uses (subst (WellFormed s) e f) (subst (λ x. Ahead s x w) e g) l))
      go (no n) (no d) more =
          let e = shape_past s h w f (omega (arith, g.tasks_left)) in
          let here : h.uses_at + 8 * h.uses ≡ w.at = omega (arith, g.tasks_left, g.uses_left, g.seen.place, f.start) in
          let kind : get_or s w.at 0 ≡ 3 = ap (λ (a : ℕ). get_or s a 0) (sym here) ∙ f.end_kind in
          let done : w.uses ≡ h.uses = omega (arith, g.uses_left) in
          ap (λ (t : Result Step Refusal). onward t (read_from k s)) (end_step_lem s w kind (omega (arith, f.whole)) (omega (arith, f.some, g.tasks_left)))
          ∙ ap Ok (ap (past_tasks w) done ∙ sym e)

-- a well-formed table is accepted, with its shape
pub complete : (s : List ℕ) (h : Shape) → WellFormed s h → read_table s ≡ Ok h
complete s h f = read_on s h f (length s + 1) start_walk (ahead_start s h f) (omega arith)
