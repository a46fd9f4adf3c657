-- Each tick of a late job's window is charged to the job's sleep, to its work, to a higher task or to a low section; and these have fewer ticks than
-- the window, if the low sections have no more than the blocking.
use Prim.Native.Nat.{ℕ, suc, ◌+◌, ◌-◌, ◌*◌, ◌≤◌, ◌<◌}
use mathlib.Core.Path.{◌≡◌, refl, ap, subst, ◌∙◌}
use mathlib.Core.Logic.{◌⊎◌, inl, inr, ⊎_elim}
use mathlib.Core.Bool.{Bool, true, false, cond}
use native.Mathlib.Omega.{arith}
use native.Mathlib.Decide.{dec_lt, ℕ_discrete}
use lib.Dec.{leb}
use borrow.Author.Tests.{lt-ltb, le-leb, leb-true}
use Rattle.searches.specs.Searches.{at}
use Rattle.searches.specs.Indexed.{sum_to}
use Rattle.searches.proofs.Sums.{sum_to_alike, sum_to_mono, sum_to_add, sum_to_at}
use Rattle.equations.specs.Counting.{ceil}
use Rattle.equations.specs.Equations.{blocking, addition, additions}
use Rattle.equations.proofs.Places.{additions_by_place}
use Rattle.equations.specs.View.{own_settings}
use Rattle.protocol.specs.Tasks.{priority}
use Rattle.protocol.specs.State.{Status, none, ready, waiting, asleep, is_asleep, holds}
use Rattle.protocol.specs.Running.{in_force, ceiling}
use Rattle.protocol.proofs.Runner.{held_holds, Runs, runs}
use Rattle.protocol.proofs.Lows.{Awake, awake_or_asleep, unheld}
use Rattle.protocol.proofs.Counting.{has_until}
use Rattle.timing.specs.Statement.{count}
use Rattle.timing.proofs.Counts.{count_split, find, exchange}
use Rattle.timing.proofs.Streams.{any_count, new_count}
use Rattle.timing.proofs.Instants.{first_rises, made_by, in_order}
use Rattle.timing.proofs.Jobs.{holds_at, there_live}
use Rattle.timing.proofs.Cover.{Blocks, Needs, Covered, higher, sleeper, blocked, cover}
use Rattle.timing.proofs.Executing.{runs_executes, asleep_rests}
use Rattle.timing.proofs.Given.{Given, tick, during, exec, rest, task, value, view, There}
use Rattle.timing.proofs.Given.{works, sleeps, value_is, value_room, run_some, period_some}
use Rattle.timing.proofs.Pace.{Of, exec_live, rest_live, exec_stream, both_stream}
use Rattle.timing.proofs.Window.{Window, low_tick, window_end}

-- what a tick is to the higher task j: where that is an obstacle of i, its sleep is charged, too
abbrev charge : Given → ℕ → ℕ → ℕ → ℕ
charge G i j t = cond (leb (task G i).priority ((view G).setting j)) (exec G j t + rest G j t) (exec G j t)

-- all that a tick is charged to
abbrev charges : Given → ℕ → ℕ → ℕ
charges G i t = rest G i t + exec G i t + sum_to (λ j. charge G i j t) i + low_tick G i t

-- who is awake isn't asleep
wide_awake : (x : Status) → Awake x → is_asleep x ≡ false
wide_awake none w = absurd w
wide_awake ready w = refl
wide_awake waiting w = refl
wide_awake asleep w = absurd w

module _ {G : Given} {m i a r b : ℕ} (D : Window G m i a r b) where
  -- In a tick of the window i has the late job; or it has none, and an obstacle has one.
  abbrev Phase : ℕ → Type 0
  Phase t = There G i a (tick G t) ⊎ ((((during G t).entry i).status ≡ none) × ((j : ℕ) × Blocks G.table (during G t) i j))

  -- each tick of it is so
  phase : (t : ℕ) → b ≤ t → t ≤ m → Phase t
  phase t lo hi = go (dec_lt a (tick G t))
    where
      go : Dec (a < tick G t) → Phase t
      go (yes p) = inl (has_until D.late p (first_rises G.clock (suc t) (suc m) (omega arith)))
      go (no p) =
          let q : D.start.index < tick G t = omega (arith, D.from.till, first_rises G.clock (suc b) (suc t) (omega arith)) in
          inr (D.start.idle (tick G t) (omega arith) (omega arith), D.start.busy (tick G t) q (omega arith))

  -- ---- one tick

  module _ (t : ℕ) where
    -- a task that is not below i, and isn't i, stands before it
    higher_before : (q : ℕ) → q < G.table.size → priority G.table i ≤ priority G.table q → (q ≡ i → ⊥) → q < i
    higher_before q l le ne = go (dec_lt i q)
      where
        go : Dec (i < q) → q < i
        go (yes p) =
            absurd (omega (
              arith,
              G.well.falling i q p (omega (arith, G.figures.size)),
              G.figures.priority_is i D.inside,
              G.figures.priority_is q l,
            ))
        go (no p) = omega arith

    -- what a higher task executes is charged to it
    exec_charged : (j : ℕ) → exec G j t ≤ charge G i j t
    exec_charged j = go (leb (task G i).priority ((view G).setting j))
      where
        go : (c : Bool) → exec G j t ≤ cond c (exec G j t + rest G j t) (exec G j t)
        go true = omega arith
        go false = omega arith

    -- and so is the sleep of an obstacle
    rest_charged : (j : ℕ) → Blocks G.table (during G t) i j → rest G j t ≤ charge G i j t
    rest_charged j c =
        let reaches : (task G i).priority ≤ (view G).setting j =
        omega (arith, c.reaches, G.figures.priority_is i D.inside, G.figures.setting_is j c.inside) in
        rw (le-leb (task G i).priority ((view G).setting j) reaches) (omega arith)

    -- where i's need is covered, the tick is charged
    by_cover : is_asleep ((during G t).entry i).status ≡ false → Covered G.table (during G t) i → 1 ≤ charges G i t
    by_cover w (higher q e le) = go (ℕ_discrete q i)
      where
        executes : (j : ℕ) → q ≡ j → 1 ≤ exec G j t
        executes j p = omega (arith, runs_executes G.accepted G.calls G.clock j t (e ∙ ap at p))

        go : Dec (q ≡ i) → 1 ≤ charges G i t
        go (yes p) = omega (arith, executes i p)
        go (no p) =
            let R : Runs in_force G.table (during G t) q = runs e in
            omega (arith, executes q refl, exec_charged q, sum_to_at (λ j. charge G i j t) i q (higher_before q R.inside le p))
    by_cover w (sleeper j c d) =
        let under = G.accepted.below j c.inside in
        let over = c.reaches in
        omega (
          arith,
          asleep_rests G.accepted G.calls G.clock j t d,
          rest_charged j c,
          sum_to_at (λ j. charge G i j t) i j (higher_before j c.inside (omega arith) (λ e. omega (arith, ap (priority G.table) e))),
        )
    by_cover w (blocked q u e l h) =
        let S = (holds_at G.accepted G.calls (tick G t)).sound in
        let held : ((during G t).entry q).held ≡ u.resource = subst (λ x. ((during G t).entry x).held ≡ u.resource) h (S.holder u l.is_open).held in
        let inside : holds ((during G t).entry q) ≡ true =
        held_holds ((during G t).entry q) (λ z. unheld G.accepted S u l.is_open (ap (λ x. ((during G t).entry x).held) h ∙ z)) in
        let lower = lt-ltb (priority G.table q) (priority G.table i) (omega (arith, l.lower, ap (priority G.table) h)) in
        let reaches = le-leb (priority G.table i) (ceiling G.table ((during G t).entry q).held)
        (omega (arith, l.reaches, ap (ceiling G.table) held)) in
        let low : low_tick G i t ≡ 1 = rw (w, e, lower, inside, reaches) in
        omega arith

    -- each tick of the window is
    charged : b ≤ t → t ≤ m → 1 ≤ charges G i t
    charged lo hi = go (phase t lo hi)
      where
        covered : Needs G.table (during G t) i → Covered G.table (during G t) i
        covered n = cover G.accepted (holds_at G.accepted G.calls (tick G t)) i D.inside n

        go : Phase t → 1 ≤ charges G i t
        go (inl h) =
            ⊎_elim
            (λ w. by_cover (wide_awake ((during G t).entry i).status w) (covered (inl w)))
            (λ d. omega (arith, asleep_rests G.accepted G.calls G.clock i t d))
            (awake_or_asleep ((during G t).entry i).status (there_live G.accepted G.calls i a (tick G t) D.inside h))
        go (inr w) = by_cover (rw w.0) (covered (inr w.1))

  -- ---- the whole window

  -- what counts only while i has a job is no more in V ticks of the window than from the late job's release to m
  own_part : (f : ℕ → ℕ) → ((t : ℕ) → 0 < f t → ((during G t).entry i).status ≡ none → ⊥) → count f b (value G i) ≤ count f r (m - r)
  own_part f live = go (find f b (value G i))
    where
      from : (x : ℕ) → x < value G i → count f b x ≡ 0 → Phase (b + x) → 0 < f (b + x) → count f b (value G i) ≤ count f r (m - r)
      from x l z (inr w) p = absurd (live (b + x) p w.0)
      from x l z (inl h) p =
          let since = made_by G.clock a r (b + x) D.when h.made in
          let rest = value G i - x in
          let more = m - (b + value G i) in
          let whole : x + rest ≡ value G i = omega arith in
          let span : (b + x - r) + (rest + more) ≡ m - r = omega (arith, window_end D) in
          let here : r + (b + x - r) ≡ b + x = omega arith in
          omega (
            arith,
            z,
            ap (count f b) whole,
            count_split f b x rest,
            ap (count f r) span,
            count_split f r (b + x - r) (rest + more),
            count_split f (r + (b + x - r)) rest more,
            ap (λ y. count f y rest) here,
          )

      go : (count f b (value G i) ≡ 0) ⊎ ((x : ℕ) × (x < value G i) × (0 < f (b + x)) × (count f b x ≡ 0)) → count f b (value G i) ≤ count f r (m - r)
      go (inl z) = omega arith
      go (inr (x, l, p, z)) = from x l z (phase (b + x) (omega arith) (omega (arith, window_end D))) p

  -- since something is left of it, its ticks of work and of sleep are fewer than C + S
  own_ticks : count (exec G i) b (value G i) + count (rest G i) b (value G i) < (task G i).run + (task G i).sleep
  own_ticks =
      let room = (value_room G i D.inside).0 in
      let some = run_some G i D.inside in
      let till : r + (m - r) ≡ m = omega (arith, D.due) in
      let made : a < G.clock.first m = omega (arith, D.when.till, first_rises G.clock (suc r) m (omega (arith, D.due))) in
      let there : There G i a (G.clock.first (r + (m - r))) =
      rw till (has_until D.late made (first_rises G.clock m (suc m) (omega arith))) in
      go (works G i a r (m - r) D.inside D.when.till there) (sleeps G i a r (m - r) D.inside D.when.till there)
      (dec_lt (count (exec G i) r (m - r) + count (rest G i) r (m - r)) ((task G i).run + (task G i).sleep))
    where
      go : count (exec G i) r (m - r) ≤ (task G i).run → count (rest G i) r (m - r) ≤ (task G i).sleep
          → Dec (count (exec G i) r (m - r) + count (rest G i) r (m - r) < (task G i).run + (task G i).sleep)
          → count (exec G i) b (value G i) + count (rest G i) b (value G i) < (task G i).run + (task G i).sleep
      go e z (yes less) = omega (arith, own_part (exec G i) (exec_live G i D.inside), own_part (rest G i) (rest_live G i D.inside))
      go e z (no all) = absurd (D.left (omega arith, omega arith))

  -- what is charged to a higher task is what it adds
  added : (j : ℕ) → j < i → count (charge G i j) b (value G i) ≤ addition (view G) i G.values (value G i) j
  added j lt = go (leb (task G i).priority ((view G).setting j)) refl
    where
      inside : j < G.table.size
      inside = omega (arith, D.inside)

      -- an obstacle's jobs were all released in the window
      new : (task G i).priority ≤ (view G).setting j → (σ s : ℕ) → b ≤ s → s < b + value G i → Of G j inside σ s → b ≤ σ
      new h σ s lo hi o = by (dec_lt o.0 D.start.index)
        where
          by : Dec (o.0 < D.start.index) → b ≤ σ
          by (no ge) = in_order G.clock D.start.index o.0 b σ (omega arith) D.from o.1
          by (yes p) =
              absurd (D.start.clear j (record {
                inside = inside;
                reaches = omega (arith, G.figures.priority_is i D.inside, G.figures.setting_is j inside);
                live = there_live G.accepted G.calls j o.0 D.start.index inside
                    (has_until o.2 p (omega (arith, D.from.till, first_rises G.clock (suc b) (suc s) (omega arith))));
              }))

      go : (c : Bool) → leb (task G i).priority ((view G).setting j) ≡ c
          → count (λ t. cond c (exec G j t + rest G j t) (exec G j t)) b (value G i)
          ≤ cond c (ceil (value G i) (task G j).period * ((task G j).run + (task G j).sleep))
          (ceil (value G i + value G j - (task G j).run) (task G j).period * (task G j).run)
      go true e =
          new_count (both_stream G j inside D.before) (period_some G j inside) b (value G i) (window_end D)
          (new (leb-true (task G i).priority ((view G).setting j) e))
      go false e = any_count (exec_stream G j inside D.before) (period_some G j inside) b (value G i) (window_end D)

  -- and to all of them
  all_added : count (λ t. sum_to (λ j. charge G i j t) i) b (value G i) ≤ additions (view G) i G.values (value G i)
  all_added =
      omega (
        arith,
        exchange (charge G i) i b (value G i),
        sum_to_mono (λ j. count (charge G i j) b (value G i)) (addition (view G) i G.values (value G i)) i added,
        additions_by_place G.bytes G.shape (own_settings G.bytes G.shape.tasks) G.values i (value G i) G.well
            (omega (arith, D.inside, G.figures.size)),
      )

  -- so, if the low sections have no more than the blocking, the window has fewer ticks than it has
  pub no_window : count (low_tick G i) b (value G i) ≤ blocking (view G) i G.values (value G i) → ⊥
  no_window low =
      omega (
        arith,
        sum_to_alike (λ x. 1) (value G i) 1 (λ x l. refl),
        sum_to_mono (λ x. 1) (λ x. charges G i (b + x)) (value G i) (λ x l. charged (b + x) (omega arith) (omega (arith, window_end D))),
        sum_to_add (λ x. rest G i (b + x) + exec G i (b + x) + sum_to (λ j. charge G i j (b + x)) i) (λ x. low_tick G i (b + x)) (value G i),
        sum_to_add (λ x. rest G i (b + x) + exec G i (b + x)) (λ x. sum_to (λ j. charge G i j (b + x)) i) (value G i),
        sum_to_add (λ x. rest G i (b + x)) (λ x. exec G i (b + x)) (value G i),
        own_ticks,
        all_added,
        value_is G i D.inside,
      )
