-- The right side put together: what the code knows of a task is what the definitions ask.
use Prim.Native.Nat.{ℕ, suc, ◌+◌, ◌-◌, ◌*◌, ◌/◌, ◌%◌, max, min, ◌≤◌, ◌<◌}
use mathlib.Core.Path.{◌≡◌, refl, sym, ap, ap₂, ◌∙◌}
use mathlib.Core.Bool.{Bool, true, false, cond, ◌&&◌}
use mathlib.Core.List.{List}
use native.Mathlib.Nat.{le_trans}
use native.Mathlib.Omega.{arith}
use lib.Dec.{leb}
use lib.ListN.{get_or}
use Rattle.searches.specs.Indexed.{sum_to}
use Rattle.searches.proofs.Searching.{largest_below}
use Rattle.searches.proofs.Sums.{sum_to_same}
use Rattle.table.specs.Fields.{word_at}
use Rattle.table.specs.declared.Shape.{Shape}
use Rattle.table.specs.WellFormed.{task_of, use_of, user_of, WellFormed}
use Rattle.equations.specs.declared.Query.{Query}
use Rattle.equations.specs.declared.picks.Sums.{Sums}
use Rattle.equations.specs.Counting.{ceil}
use Rattle.equations.specs.Bag.{bag_to, sum_of_largest}
use Rattle.equations.specs.View.{view_of}
use Rattle.equations.specs.Equations.{repeats, bag, reaches, outside, extra, blocking, additions, right_side}
use Rattle.equations.specs.Keeping.{word_of, counted}
use Rattle.equations.specs.Picking.{times_of, lengths_in, times_in, sums_of, Picking}
use Rattle.equations.specs.Ready.{blocks, Asking}
use Rattle.equations.proofs.Counting.{ceil_some, product}
use Rattle.equations.proofs.Layers.{part_most, reach, bag_layers, bag_most}
use Rattle.equations.proofs.Keeping.{kept_each}
use Rattle.equations.proofs.Words.{word_length, word_user, word_times}

-- two tests in either order
either_order : (b c : Bool) (x : ℕ) → cond b (cond c x 0) 0 ≡ cond c (cond b x 0) 0
either_order true true x = refl
either_order true false x = refl
either_order false true x = refl
either_order false false x = refl

module _ (s : List ℕ) (h : Shape) (w : WellFormed s h) (bytes : (j : ℕ) → get_or s j 0 ≤ 255) (settings v kept : List ℕ) (n : ℕ) (q : Query) (t : ℕ)
    (g : Asking s h settings v kept n q t) where
  -- the place of use k's task
  abbrev user : ℕ → ℕ
  user k = user_of s h.tasks h.uses_at k

  sleeps_most : q.sleeps ≤ 64
  sleeps_most = omega (arith, g.query.sleeps, (w.task_range q.task g.ready.task).sleeps)

  -- what is 0 of every use is 0 of those kept
  of_kept : (f : ℕ → ℕ) → ((k : ℕ) → k < h.uses → f (word_of s h k) ≡ 0) → (i : ℕ) → i < n → f (get_or kept i 0) ≡ 0
  of_kept f z =
      kept_each (blocks (view_of s h settings) q.task) (word_of s h) h.uses ((task_of s q.task).sleeps + 1) kept n
      g.query.kept f (λ k l e. z k l)

  -- a kept use is of a task of the table
  kept_user : (i : ℕ) → i < n → get_or kept i 0 % 256 < h.tasks
  kept_user i l =
      omega (
        arith,
        of_kept (λ x. x % 256 + 1 - h.tasks)
            (λ k m. omega (arith, word_user s h w bytes k m, w.owned k m)) i l,
      )

  -- and not too long
  kept_short : (i : ℕ) → i < n → get_or kept i 0 / 65536 ≤ 1000000
  kept_short i l =
      omega (
        arith,
        of_kept (λ x. x / 65536 - 1000000)
            (λ k m. omega (arith, word_length s h w bytes k m, (w.use_range k m).length_most)) i l,
      )

  -- what the picks ask
  pub picking : Picking s v kept h.tasks n q.sleeps t
  picking = record {
    sleeps = sleeps_most;
    few = omega (arith, g.query.kept.few, g.query.sleeps, sleeps_most);
    falls = g.query.kept.falls;
    timed = λ i l.
        let m = kept_user i l in
        let b = w.task_range (get_or kept i 0 % 256) m in
        let run = b.run in
        let within = b.run_within in
        let deadline = b.deadline_within in
        record {
          task = m;
          place = omega (arith, g.ready.sized);
          small = omega (arith, g.ready.most (get_or kept i 0 % 256) m, g.ready.length_most);
          period = omega arith;
          period_most = b.period;
        };
    short = kept_short;
  }

  -- each use is in the bag once at least
  times_some : (k : ℕ) → k < h.uses → 1 ≤ times_of s v t (word_of s h k)
  times_some k l =
      let own = w.owned k l in
      let b = w.task_range (user k) own in
      let run = b.run in
      let within = b.run_within in
      let deadline = b.deadline_within in
      omega (
        arith,
        word_times s h w bytes k l v t,
        product 1 1 (use_of s h.uses_at k).times (ceil (t + get_or v (user k) 0) (task_of s (user k)).period) (w.use_range k l).times
            (ceil_some (t + get_or v (user k) 0) (task_of s (user k)).period (omega (arith, g.ready.floor (user k) own)) (omega arith)),
      )

  -- how many reach a height, by words and by uses
  same_reach : (y : ℕ) → sum_to (λ k. cond (blocks (view_of s h settings) q.task k) (counted (times_of s v t) y (word_of s h k)) 0) h.uses
      ≡ reach h.uses (λ k. (use_of s h.uses_at k).length) (repeats (view_of s h settings) q.task v t) y
  same_reach y =
      sum_to_same _ _ h.uses
      (λ k l.
      ap₂ (λ (a x : ℕ). cond (blocks (view_of s h settings) q.task k) (cond (leb y a) x 0) 0)
      (word_length s h w bytes k l) (word_times s h w bytes k l v t)
      ∙ either_order (blocks (view_of s h settings) q.task k) (leb y (use_of s h.uses_at k).length) _)

  -- the sum of the largest kept is that of the task's bag
  largest_same : (x : ℕ) → x ≤ (task_of s q.task).sleeps + 1
      → sum_of_largest x (bag_to n (lengths_in kept) (times_in s v kept t)) ≡ sum_of_largest x (bag (view_of s h settings) q.task v t)
  largest_same x le =
      bag_layers 1000000 x n (lengths_in kept) (times_in s v kept t) kept_short
      ∙ sum_to_same _ _ 1000000 (λ y p. g.query.kept.enough (times_of s v t) (λ k l e. times_some k l) (suc y) x le ∙ ap (min x) (same_reach (suc y)))
      ∙ sym (bag_layers 1000000 x h.uses (λ k. (use_of s h.uses_at k).length) (repeats (view_of s h settings) q.task v t)
      (λ k l. (w.use_range k l).length_most))

  -- the sums are those of the task's bag
  pub sums_are : (p : Sums) → p ≡ sums_of s v kept n q.sleeps t
      → (p.less ≡ sum_of_largest (task_of s q.task).sleeps (bag (view_of s h settings) q.task v t))
      × (p.more ≡ sum_of_largest ((task_of s q.task).sleeps + 1) (bag (view_of s h settings) q.task v t))
  sums_are p e = (
    ap (λ (a : Sums). a.less) e ∙ ap (λ (x : ℕ). sum_of_largest x (bag_to n (lengths_in kept) (times_in s v kept t))) g.query.sleeps
        ∙ largest_same (task_of s q.task).sleeps (omega arith),
    ap (λ (a : Sums). a.more) e ∙ ap (λ (x : ℕ). sum_of_largest (x + 1) (bag_to n (lengths_in kept) (times_in s v kept t))) g.query.sleeps
        ∙ largest_same ((task_of s q.task).sleeps + 1) (omega arith),
  )

  -- they are small, and so is B0
  pub sums_most : (p : Sums) → p ≡ sums_of s v kept n q.sleeps t → (p.less ≤ 64000000) × (p.more ≤ 65000000)
  sums_most p e =
      let few = sleeps_most in (
        omega (arith, ap (λ (a : Sums). a.less) e, bag_most 1000000 q.sleeps n (lengths_in kept) (times_in s v kept t) kept_short),
        omega (arith, ap (λ (a : Sums). a.more) e, bag_most 1000000 (q.sleeps + 1) n (lengths_in kept) (times_in s v kept t) kept_short),
      )

  pub extra_most : q.extra ≤ 1000000
  unfolding extra
  extra_most =
      let W = view_of s h settings in
      let used = use_of s h.uses_at in
      let counts : ℕ → Bool = λ k. outside W q.task (used k).priority && reaches W q.task k in
      omega (
        arith,
        g.query.extra,
        largest_below (λ k. cond (counts k) (used k).length 0) h.uses 1000000
            (λ k l. le_trans (part_most (counts k) (used k).length) (w.use_range k l).length_most),
      )

  -- all parts of the right side are small
  pub parts_most : (p : Sums) → p ≡ sums_of s v kept n q.sleeps t
      → (p.less ≤ 64000000) × (p.more ≤ 65000000) × (q.extra ≤ 1000000) × ((task_of s q.task).run ≤ 1000000) × ((task_of s q.task).sleep ≤ 1000000)
  parts_most p e =
      let sums = sums_most p e in
      let own = w.task_range q.task g.ready.task in
      (sums.0, sums.1, extra_most, omega (arith, own.run_within, own.deadline_within, own.period), own.sleep)

  -- all together
  pub side_is : (run sleep block add : ℕ) (p : Sums) → p ≡ sums_of s v kept n q.sleeps t → run ≡ word_at s (20 * q.task + 4) → sleep ≡ word_at s (20 * q.task + 8)
      → block ≡ max p.more (q.extra + p.less) → add ≡ additions (view_of s h settings) q.task v t
      → run + sleep + block + add ≡ right_side (view_of s h settings) q.task v t
  unfolding blocking
  side_is run sleep block add p e er es eb ea =
      let are = sums_are p e in
      rw (er, es, eb, ea, are.0, are.1, g.query.extra)
