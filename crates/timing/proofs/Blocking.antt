-- The low ticks of a window are no more than the blocking.
use Prim.Native.Nat.{ℕ, zero, suc, ◌+◌, ◌*◌, ◌≤◌, ◌<◌}
use mathlib.Core.Path.{◌≡◌, refl, sym, ap, subst, ◌∙◌}
use mathlib.Core.Bool.{true, ◌&&◌}
use native.Mathlib.Omega.{arith}
use native.Mathlib.Decide.{dec_lt}
use lib.Dec.{ltb, eqb}
use borrow.Author.Tests.{ltb-true, lt-ltb, le-leb, eqb-true}
use Rattle.searches.specs.Searches.{only}
use Rattle.searches.specs.Indexed.{sum_to}
use Rattle.searches.proofs.Testing.{and_true}
use Rattle.searches.proofs.Searching.{largest_reaches}
use Rattle.equations.specs.Counting.{ceil}
use Rattle.equations.specs.Bag.{sum_of_largest}
use Rattle.equations.specs.Equations as equations
use Rattle.equations.specs.Equations.{repeats, bag, extra, blocking}
use Rattle.protocol.specs.Tasks.{priority}
use Rattle.timing.specs.Statement.{count}
use Rattle.timing.proofs.Counts.{count_split, count_more, count_none}
use Rattle.timing.proofs.Bags.{few_pass, blocks_fit}
use Rattle.timing.proofs.Figures.{user_inside, user_priority_lem, ceiling_most}
use Rattle.timing.proofs.Executing.{runs_executes}
use Rattle.timing.proofs.Given.{Given, task, value, view}
use Rattle.timing.proofs.Pace.{of_busy, of_born, of_age}
use Rattle.timing.proofs.Window.{Window, low_tick, window_end}
use Rattle.timing.proofs.LowSections.{new_section, above_setting}
use Rattle.timing.proofs.Touched.{one, opened_after, Touched, rank, rank_below, rank_once}
use Rattle.timing.proofs.Blocks.{size, in_blocks, Block, block}

module _ {G : Given} {m i a r b : ℕ} (D : Window G m i a r b) where
  -- ---- a block and its use

  -- the use is of a lower task
  lower : {x k : ℕ} → Block D x k → ((view G).usage k).priority < ((view G).task i).priority
  lower {x} {k} B =
      omega (
        arith,
        user_priority_lem G.well G.figures k B.inside,
        ap (priority G.table) B.user,
        B.meet.lower,
        G.figures.priority_is i D.inside,
      )

  -- its ceiling reaches i
  reaches : {x k : ℕ} → Block D x k → ((view G).task i).priority ≤ equations.ceiling (view G) ((view G).usage k).resource
  reaches {x} {k} B =
      omega (
        arith,
        ap (equations.ceiling (view G)) B.resource,
        ceiling_most G.well G.figures B.meet.r,
        B.meet.reaches,
        G.figures.priority_is i D.inside,
      )

  -- after a sleep it is of a task above the setting of i
  above : {x k : ℕ} → Block D x k → 0 < x → (view G).setting i < ((view G).usage k).priority
  above {x} {k} B some =
      omega (
        arith,
        user_priority_lem G.well G.figures k B.inside,
        ap (priority G.table) B.user,
        G.figures.setting_is i D.inside,
        above_setting D B.time (omega (arith, B.hi, window_end D)) (omega (arith, B.is)) B.meet,
      )

  -- the section that it meets is of a job of the use's task that the window touches
  touched : {x k : ℕ} (B : Block D x k) → Touched G ((view G).user k) ((view G).usage k).resource b (value G i) B.meet.o
  touched B =
      let y = B.meet in
      let runs = runs_executes G.accepted G.calls G.clock y.q B.time y.runs in
      let w = of_busy G y.q y.inside B.time (omega (arith, runs)) in
      rw (B.user, B.resource) (record {
        time = B.time;
        birth = w.0;
        release = w.1.0;
        born = w.1.1;
        has = w.1.2;
        began = y.opened.began;
        made = y.opened.made;
        order = opened_after G y.q y.r w.1.0 y.o _ y.inside w.1.2 y.opened;
        early = omega (arith, B.lo, of_age G y.q y.inside D.before w.0 B.time (omega (arith, B.hi, window_end D)) w.1);
        late = omega (arith, B.hi, of_born G y.q y.inside w.0 B.time w.1);
      })

  -- the rank of that section
  abbrev rank_in : {x k : ℕ} → Block D x k → ℕ
  rank_in B = rank (touched B)

  -- N for each job at most
  rank_in_below : {x k : ℕ} (B : Block D x k)
      → rank_in B < ((view G).usage k).times * ceil (value G i + value G ((view G).user k)) (task G ((view G).user k)).period
  rank_in_below {x} {k} B =
      rank_below (user_inside G.well G.figures k B.inside) ((view G).usage k).times (touched B) (G.figures.times_most k B.inside)

  -- a later block meets another section
  another : {x y k : ℕ} (B : Block D x k) (C : Block D y k) → x < y → B.meet.o ≡ C.meet.o → ⊥
  another B C lt =
      let till = window_end D in
      new_section D B.time C.time (omega (arith, B.hi)) (omega (arith, B.is, C.is)) B.meet C.meet

  -- so a rank is that of one block of the use
  rank_in_once : {x y k : ℕ} (B : Block D x k) (C : Block D y k) → rank_in B ≡ rank_in C → x ≡ y
  rank_in_once {x} {y} {k} B C e =
      let same = rank_once (user_inside G.well G.figures k B.inside) (touched B) (touched C) e in
      one (λ lt. another B C lt same) (λ lt. another C B lt (sym same))

  -- ---- the blocks against the bag

  -- the use of a block
  abbrev kin : ℕ → ℕ
  kin x = (block D x).0

  -- Where from the block s on each is of a task in the middle set,
  module _ (s : ℕ) (middle : (x : ℕ) → 0 < size D (s + x) → (view G).setting i < ((view G).usage (kin (s + x))).priority) where
    -- a use is taken no more often than it is in the bag
    few : (n j : ℕ) → sum_to (λ x. only (ltb 0 (size D (s + x)) && eqb (kin (s + x)) j) 1) n ≤ repeats (view G) i G.values (value G i) j
    few n j =
        few_pass (λ x. ltb 0 (size D (s + x)) && eqb (kin (s + x)) j) n (repeats (view G) i G.values (value G i) j)
        (λ x y. (B : Block D (s + x) j) × (rank_in B ≡ y)) choose
        (λ x z y v w. omega (arith, rank_in_once v.0 w.0 (v.1 ∙ sym w.1)))
      where
        whole : {x : ℕ} → Block D x j → (view G).setting i < ((view G).usage j).priority
            → repeats (view G) i G.values (value G i) j
            ≡ ((view G).usage j).times * ceil (value G i + value G ((view G).user j)) (task G ((view G).user j)).period
        whole B up = rw (lt-ltb _ _ (lower B), lt-ltb _ _ up, le-leb _ _ (reaches B)) refl

        choose : (x : ℕ) → ltb 0 (size D (s + x)) && eqb (kin (s + x)) j ≡ true
            → (y : ℕ) × (y < repeats (view G) i G.values (value G i) j) × ((B : Block D (s + x) j) × (rank_in B ≡ y))
        choose x e =
            let c = and_true (ltb 0 (size D (s + x))) (eqb (kin (s + x)) j) e in
            let some : 0 < size D (s + x) = ltb-true 0 (size D (s + x)) c.0 in
            let is : kin (s + x) ≡ j = eqb-true (kin (s + x)) j c.1 in
            let B = subst (Block D (s + x)) is ((block D (s + x)).1 some) in
            let up = subst (λ k. (view G).setting i < ((view G).usage k).priority) is (middle x some) in
            (rank_in B, rw (whole B up) (rank_in_below B), (B, refl))

    -- so they are no more than the largest of the bag
    fit : (n : ℕ) → count (size D) s n ≤ sum_of_largest n (bag (view G) i G.values (value G i))
    fit n =
        blocks_fit n G.shape.uses (λ x. size D (s + x)) (λ x. kin (s + x)) (λ k. ((view G).usage k).length)
        (repeats (view G) i G.values (value G i)) (λ x l h. let B = (block D (s + x)).1 h in (B.inside, B.fits)) (λ j l. few n j)

  -- the first block, where its task is outside the middle set, is B0 at most
  first_fits : ((view G).setting i < ((view G).usage (kin 0)).priority → ⊥) → size D 0 ≤ extra (view G) i
  unfolding extra
  first_fits down = go (dec_lt 0 (size D 0))
    where
      go : Dec (0 < size D 0) → size D 0 ≤ extra (view G) i
      go (no z) = omega arith
      go (yes h) =
          let B = (block D 0).1 h in
          largest_reaches _ G.shape.uses (kin 0) B.inside
          (rw (lt-ltb _ _ (lower B), le-leb ((view G).usage (kin 0)).priority ((view G).setting i) (omega arith), le-leb _ _ (reaches B)) B.fits)

  -- so all are Σ(X + 1) or B0 + Σ(X) at most
  pub low_bounded : count (low_tick G i) b (value G i) ≤ blocking (view G) i G.values (value G i)
  unfolding blocking
  low_bounded = go (dec_lt ((view G).setting i) ((view G).usage (kin 0)).priority)
    where
      sleeps : ℕ
      sleeps = (task G i).sleeps

      one_more_lem : 1 + sleeps ≡ sleeps + 1
      one_more_lem = omega arith

      go : Dec ((view G).setting i < ((view G).usage (kin 0)).priority)
          → count (low_tick G i) b (value G i) ≤ blocking (view G) i G.values (value G i)
      go (yes up) =
          omega (arith, in_blocks D, fit 0 all (1 + sleeps), ap (λ n. sum_of_largest n (bag (view G) i G.values (value G i))) one_more_lem)
        where
          all : (x : ℕ) → 0 < size D (0 + x) → (view G).setting i < ((view G).usage (kin (0 + x))).priority
          all zero h = up
          all (suc x) h = above ((block D (0 + suc x)).1 h) (omega arith)
      go (no down) =
          omega (
            arith,
            in_blocks D,
            count_split (size D) 0 1 sleeps,
            count_more (size D) 0 0,
            count_none (size D) 0,
            first_fits down,
            fit 1 (λ x h. above ((block D (1 + x)).1 h) (omega arith)) sleeps,
          )
