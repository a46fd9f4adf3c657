-- The low sections that the ticks of a window meet: one to each stretch between sleeps of the late job, different ones to different stretches, and
-- after a sleep only those of tasks above its setting.
use Prim.Native.Nat.{ℕ, suc, ◌≤◌, ◌<◌}
use mathlib.Core.Path.{◌≡◌, refl, ap, subst, ◌∙◌}
use mathlib.Core.Logic.{inl, inr, ⊎_elim}
use mathlib.Core.Bool.{true, false, not}
use native.Mathlib.Omega.{arith}
use native.Mathlib.Decide.{dec_le, dec_lt}
use lib.Dec.{ltb, leb, eqb}
use borrow.Author.Tests.{ltb-true, leb-true, lt-ltb, le-ltb, not-true, eqb-false}
use Rattle.searches.specs.Searches.{Place, nowhere, at, only}
use Rattle.searches.proofs.Testing.{impossible, and_true}
use Rattle.searches.proofs.Leading.{only_most}
use Rattle.protocol.specs.Tasks.{priority, setting}
use Rattle.protocol.specs.State.{asleep, holds, is_asleep}
use Rattle.protocol.specs.Running.{in_force, running, ceiling}
use Rattle.protocol.specs.Acting.{section}
use Rattle.protocol.specs.Trace.{Open}
use Rattle.protocol.proofs.Invariant.{Unfinished}
use Rattle.protocol.proofs.Runner.{Runs, runs}
use Rattle.protocol.proofs.Lows.{Awake, awake_or_asleep}
use Rattle.protocol.proofs.Sections.{was_open, opened_by}
use Rattle.protocol.proofs.Exclusion.{one_section_open}
use Rattle.protocol.proofs.Counting.{has_until}
use Rattle.timing.proofs.Counts.{counted}
use Rattle.timing.proofs.Instants.{first_rises}
use Rattle.timing.proofs.Jobs.{run, holds_at, next, there_live}
use Rattle.timing.proofs.Marks.{sleeps_most, sleeps_none, sleeps_rise, sleeps_up, ran_between}
use Rattle.timing.proofs.Cover.{LowSection, Needs, one_open, run_free, no_lock, above_started}
use Rattle.timing.proofs.Sections.{lies_in, at_lock}
use Rattle.timing.proofs.Given.{Given, state, ev, tick, during, runner, task, There}
use Rattle.timing.proofs.Window.{Window, low_at, low_tick}

-- In the tick t the task at q runs, below i, inside the section of the resource r that the call o opened.
pub record Meets (G : Given) (i t : ℕ) : Type 0 where
  pub q : ℕ
  pub r : ℕ
  pub o : ℕ
  pub inside : q < G.table.size
  pub runs : runner G t ≡ at q
  pub lower : priority G.table q < priority G.table i
  pub reaches : priority G.table i ≤ ceiling G.table r
  pub uses : 0 < (G.table.task q).uses r
  pub opened : Open (ev G) o (priority G.table q) r (tick G t)
  pub awake : ((during G t).entry i).status ≡ asleep → ⊥

-- a low tick meets one
pub meets : (G : Given) (i t : ℕ) → 0 < low_tick G i t → Meets G i t
meets G i t h =
    let c = and_true (not (is_asleep ((during G t).entry i).status)) (low_at G.table (during G t) i (runner G t)) (counted _ h) in
    go (runner G t) refl (λ z. let f : not (is_asleep ((during G t).entry i).status) ≡ false = rw z in impossible (cc (f, c.0))) c.1
  where
    go : (p : Place) → runner G t ≡ p → (((during G t).entry i).status ≡ asleep → ⊥) → low_at G.table (during G t) i p ≡ true → Meets G i t
    go nowhere e awake l = absurd (impossible cc)
    go (at q) e awake l =
        let r = ((during G t).entry q).held in
        let x = and_true (ltb (priority G.table q) (priority G.table i)) _ l in
        let y = and_true (holds ((during G t).entry q)) (leb (priority G.table i) (ceiling G.table r)) x.1 in
        let R : Runs in_force G.table (during G t) q = runs e in
        let S = (holds_at G.accepted G.calls (tick G t)).sound in
        let n = (S.each q).mark (eqb-false r 0 (not-true (eqb r 0) y.0)) in
        let w = opened_by (run G.accepted G.calls) (tick G t) (section q r) n in
        record {
          q = q;
          r = r;
          o = w.0;
          inside = R.inside;
          runs = e;
          lower = ltb-true (priority G.table q) (priority G.table i) x.0;
          reaches = leb-true (priority G.table i) (ceiling G.table r) y.1;
          uses = (S.holder (section q r) n).uses;
          opened = w.1;
          awake = awake;
        }

module _ {G : Given} {m i a r b : ℕ} (D : Window G m i a r b) where
  -- ---- the late job along the calls

  -- how often it has slept after k calls, 0 before its release
  abbrev slept : ℕ → ℕ
  slept k = only (ltb a k) ((state G k).entry i).sleeps

  -- that is the count in its entry since the release
  slept_since : (k : ℕ) → a < k → slept k ≡ ((state G k).entry i).sleeps
  slept_since k lt = rw (lt-ltb a k lt) refl

  -- and 0 up to that
  slept_none : (k : ℕ) → k ≤ suc a → slept k ≡ 0
  slept_none k le = go (dec_lt a k)
    where
      go : Dec (a < k) → slept k ≡ 0
      go (yes lt) =
          let e : k ≡ suc a = omega arith in
          slept_since k lt ∙ ap (λ x. ((state G x).entry i).sleeps) e ∙ sleeps_none G.accepted G.calls i D.inside a D.release
      go (no ge) = rw (le-ltb a k (omega arith)) refl

  -- how often it has slept in the tick t
  abbrev pub part : ℕ → ℕ
  part t = only (ltb a (tick G t)) ((during G t).entry i).sleeps

  -- X at most
  pub part_most : (t : ℕ) → part t ≤ (task G i).sleeps
  part_most t =
      omega (
        arith,
        only_most (ltb a (tick G t)) ((during G t).entry i).sleeps,
        sleeps_most G.accepted G.calls i D.inside (tick G t),
        G.figures.most_is i D.inside,
      )

  -- later ticks have no fewer calls before them
  tick_rises : {t u : ℕ} → t ≤ u → tick G t ≤ tick G u
  tick_rises {t} {u} le = first_rises G.clock (suc t) (suc u) (omega arith)

  -- the job is there until the tick m
  there : {k : ℕ} → a < k → k ≤ tick G m → There G i a k
  there lo hi = has_until D.late lo hi

  -- so it is unfinished
  live : (k : ℕ) → a < k → k ≤ tick G m → Unfinished ((state G k).entry i)
  live k lo hi = there_live G.accepted G.calls i a k D.inside (there lo hi)

  -- its sleeps don't fall
  slept_rises : (j k : ℕ) → j ≤ k → k ≤ tick G m → slept j ≤ slept k
  slept_rises j k le hi = go (dec_lt a j)
    where
      go : Dec (a < j) → slept j ≤ slept k
      go (yes lt) =
          omega (
            arith,
            slept_since j lt,
            slept_since k (omega arith),
            sleeps_rise G.accepted G.calls i D.inside a j k (there (omega arith) hi) lt le,
          )
      go (no ge) = omega (arith, slept_none j (omega arith))

  -- where it wasn't asleep and is, they rose
  slept_more : (j k : ℕ) → j ≤ k → a < k → k ≤ tick G m → (((state G j).entry i).status ≡ asleep → ⊥) → ((state G k).entry i).status ≡ asleep
      → slept j < slept k
  slept_more j k le lt hi awake z = go (dec_lt a j)
    where
      up : (x : ℕ) → a < x → x ≤ k → Awake ((state G x).entry i).status → slept x < slept k
      up x lo till w =
          omega (
            arith,
            slept_since x lo,
            slept_since k lt,
            sleeps_up G.accepted G.calls i D.inside a x k (there lt hi) lo till w z,
          )

      go : Dec (a < j) → slept j < slept k
      go (yes c) = up j c le (⊎_elim (λ w. w) (λ n. absurd (awake n)) (awake_or_asleep ((state G j).entry i).status (live j c (omega arith))))
      go (no c) =
          omega (
            arith,
            slept_none j (omega arith),
            up (suc a) (omega arith) lt ((next G.accepted G.calls a).begins i D.inside (inl D.release)),
          )

  -- where they rose it ran between
  ran : (j k : ℕ) → j ≤ k → slept j < slept k → (l : ℕ) × (j ≤ l) × (l < k) × (running in_force G.table (state G l).entry ≡ at i)
  ran j k le h = go (dec_lt a j) (dec_lt a k)
    where
      go : Dec (a < j) → Dec (a < k) → (l : ℕ) × (j ≤ l) × (l < k) × (running in_force G.table (state G l).entry ≡ at i)
      go c (no d) = absurd (omega (arith, slept_none k (omega arith)))
      go (yes c) (yes d) =
          ran_between G.accepted G.calls i D.inside j k le (omega (arith, slept_since j c, slept_since k d))
      go (no c) (yes d) =
          let n = sleeps_none G.accepted G.calls i D.inside a D.release in
          let w = ran_between G.accepted G.calls i D.inside (suc a) k d (omega (arith, n, slept_since k d)) in
          (w.0, omega (arith, w.1), w.2, w.3)

  -- from the window's start on, while its sleeps stay as they are, it is awake or an obstacle of it has a job
  needs : (j k l : ℕ) → D.start.index < j → k ≤ tick G m → slept j ≡ slept k → (((state G j).entry i).status ≡ asleep → ⊥) → j ≤ l → l ≤ k
      → Needs G.table (state G l) i
  needs j k l lo hi same awake p q = go (dec_le l a)
    where
      go : Dec (l ≤ a) → Needs G.table (state G l) i
      go (yes c) = inr (D.start.busy l (omega arith) c)
      go (no c) =
          ⊎_elim (λ w. inl w)
          (λ z. absurd (omega (arith, slept_more j l p (omega arith) (omega arith) awake z, slept_rises l k q hi)))
          (awake_or_asleep ((state G l).entry i).status (live l (omega arith) (omega arith)))

  -- ---- sections met

  -- a section that is met is a low one since it was opened
  low_since : (u l : ℕ) (y : Meets G i u) → y.o < l → l ≤ tick G u → LowSection G.table (state G l) i (section y.q y.r)
  low_since u l y lo hi = record {
    is_open = lies_in G.accepted G.calls l y.o y.q y.r y.inside (was_open y.opened lo hi);
    lower = y.lower;
    reaches = y.reaches;
  }

  -- its task couldn't have opened it where the late job needs the processor
  no_need : (u : ℕ) (y : Meets G i u) → Needs G.table (state G y.o) i → ⊥
  no_need u y n =
      let w = at_lock G.accepted G.calls y.o y.q y.r y.inside y.opened.began in
      no_lock G.accepted (holds_at G.accepted G.calls y.o) y.q i w.0 w.1 y.lower n

  -- the late job hasn't slept since a section that is met was opened: it would have run inside that
  none_since : (u : ℕ) (y : Meets G i u) → slept (suc y.o) < part u → ⊥
  none_since u y h =
      let w = ran (suc y.o) (tick G u) y.opened.made h in
      run_free G.accepted (holds_at G.accepted G.calls w.0) i (section y.q y.r) w.3
      (low_since u w.0 y w.1 (omega (arith, w.2)))

  -- in one stretch one section is met
  pub same_section : (t u : ℕ) → b ≤ t → t ≤ u → u ≤ m → part t ≡ part u → (x : Meets G i t) (y : Meets G i u)
      → (x.q ≡ y.q) × (x.r ≡ y.r) × (x.o ≡ y.o)
  same_section t u lo le hi same x y =
      let old = older (dec_lt y.o (tick G t)) in
      let s = one_open G.accepted (holds_at G.accepted G.calls (tick G t)) i (section x.q x.r) (section y.q y.r)
      (low_since t (tick G t) x x.opened.made (omega arith)) (low_since u (tick G t) y old (tick_rises le)) in
      let e : x.r ≡ y.r = ap (λ z. z.resource) s in (
        ap (λ z. z.place) s,
        e,
        one_section_open (run G.accepted G.calls) (tick G t) y.r x.o y.o (priority G.table x.q) (priority G.table y.q)
            (subst (λ z. Open (ev G) x.o (priority G.table x.q) z (tick G t)) e x.opened)
            (was_open y.opened old (tick_rises le)),
      )
    where
      older : Dec (y.o < tick G t) → y.o < tick G t
      older (yes p) = p
      older (no p) =
          let begun : D.start.index < tick G t = omega (arith, D.from.till, tick_rises lo) in
          absurd (no_need u y
          (needs (tick G t) (tick G u) y.o begun (tick_rises hi) same x.awake (omega arith) (omega (arith, y.opened.made))))

  -- in a later stretch another
  pub new_section : (t u : ℕ) → t ≤ m → part t < part u → (x : Meets G i t) (y : Meets G i u) → x.o ≡ y.o → ⊥
  new_section t u hi less x y e =
      none_since u y (omega (arith, slept_rises (suc x.o) (tick G t) x.opened.made (tick_rises hi), ap (λ z. slept (suc z)) e))

  -- after a sleep one of a task above the late job's setting
  pub above_setting : (u : ℕ) → u ≤ m → 0 < part u → (y : Meets G i u) → setting G.table i < priority G.table y.q
  above_setting u hi some y = go (dec_lt a y.o)
    where
      go : Dec (a < y.o) → setting G.table i < priority G.table y.q
      go (no c) = absurd (none_since u y (omega (arith, slept_none (suc y.o) (omega arith))))
      go (yes c) =
          let I = holds_at G.accepted G.calls y.o in
          let w = at_lock G.accepted G.calls y.o y.q y.r y.inside y.opened.began in
          let h = live y.o c (omega (arith, y.opened.made, tick_rises hi)) in
          ⊎_elim (λ z. absurd (no_need u y (inl z)))
          (λ z. above_started G.accepted I y.q i w.0 w.1 D.inside ((I.sound.each i).dozed z) h)
          (awake_or_asleep ((state G y.o).entry i).status h)
