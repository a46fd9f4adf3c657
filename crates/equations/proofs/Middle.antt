-- The uses of a task's middle set stand side by side, and those of lower tasks outside it after them.
use Prim.Native.Nat.{ℕ, ◌+◌, max, ◌≤◌, ◌<◌}
use mathlib.Core.Path.{◌≡◌, sym, ap}
use mathlib.Core.Bool.{true, false, cond, ◌&&◌, and-false}
use mathlib.Core.List.{List}
use native.Mathlib.Decide.{dec_lt}
use native.Mathlib.Omega.{arith}
use lib.Dec.{ltb, leb}
use lib.ListN.{get_or}
use borrow.Author.Tests.{lt-ltb, le-ltb, le-leb, lt-leb}
use Rattle.table.specs.declared.Shape.{Shape}
use Rattle.table.specs.WellFormed.{task_of, use_of, WellFormed}
use Rattle.equations.specs.View.{view_of}
use Rattle.equations.specs.Equations.{ceiling, reaches, middle, outside, extra}
use Rattle.equations.specs.Ceilings.{CeilingsAre}
use Rattle.equations.specs.Ready.{UsesFrom, Longest}

module _ (s : List ℕ) (h : Shape) (settings : List ℕ) (i : ℕ) (first end : ℕ)
    (f : UsesFrom s h (task_of s i).priority first) (e : UsesFrom s h (get_or settings i 0 + 1) end) where
  -- a use before the first, or from the end on, is not of the middle set
  pub not_middle : (k : ℕ) → k < h.uses → (first ≤ k → end ≤ k) → middle (view_of s h settings) i (use_of s h.uses_at k).priority ≡ false
  not_middle k l out = go (dec_lt k first)
    where
      go : Dec (k < first) → ltb (use_of s h.uses_at k).priority (task_of s i).priority && ltb (get_or settings i 0) (use_of s h.uses_at k).priority ≡ false
      go (yes b) = rw (le-ltb (use_of s h.uses_at k).priority (task_of s i).priority (f.before k b))
      go (no b) =
          rw (le-ltb (get_or settings i 0) (use_of s h.uses_at k).priority (omega (arith, e.after k (out (omega arith)) l)))
          (and-false (ltb (use_of s h.uses_at k).priority (task_of s i).priority))

  -- one from the first to before the end is
  pub is_middle : (k : ℕ) → first ≤ k → k < end → middle (view_of s h settings) i (use_of s h.uses_at k).priority ≡ true
  is_middle k a b =
      let p = f.after k a (omega (arith, e.within)) in
      rw (
        lt-ltb (use_of s h.uses_at k).priority (task_of s i).priority p,
        lt-ltb (get_or settings i 0) (use_of s h.uses_at k).priority (omega (arith, e.before k b)),
      )

  -- one before the first or before the end is not of a lower task outside it
  not_outside : (k : ℕ) → k < max first end → outside (view_of s h settings) i (use_of s h.uses_at k).priority ≡ false
  not_outside k l = go (dec_lt k first)
    where
      go : Dec (k < first) → ltb (use_of s h.uses_at k).priority (task_of s i).priority && leb (use_of s h.uses_at k).priority (get_or settings i 0) ≡ false
      go (yes b) = rw (le-ltb (use_of s h.uses_at k).priority (task_of s i).priority (f.before k b))
      go (no b) =
          rw (lt-leb (use_of s h.uses_at k).priority (get_or settings i 0) (omega (arith, e.before k (omega arith))))
          (and-false (ltb (use_of s h.uses_at k).priority (task_of s i).priority))

  -- all later ones are
  is_outside : (k : ℕ) → max first end ≤ k → k < h.uses → outside (view_of s h settings) i (use_of s h.uses_at k).priority ≡ true
  is_outside k a l =
      rw (
        lt-ltb (use_of s h.uses_at k).priority (task_of s i).priority (f.after k (omega arith) l),
        le-leb (use_of s h.uses_at k).priority (get_or settings i 0) (omega (arith, e.after k (omega arith) l)),
      )

  -- a listed ceiling decides whether a use reaches
  pub reaches_listed : (ceilings : List ℕ) → WellFormed s h → CeilingsAre s h ceilings → (k : ℕ) → k < h.uses
      → reaches (view_of s h settings) i k ≡ leb (task_of s i).priority (get_or ceilings (use_of s h.uses_at k).resource 0)
  unfolding ceiling
  reaches_listed ceilings w c k l =
      ap (leb (task_of s i).priority) (sym (c (use_of s h.uses_at k).resource (w.use_range k l).resource_most))

  -- B0 is the longest from there on
  pub extra_is : (ceilings : List ℕ) (r : ℕ) → WellFormed s h → CeilingsAre s h ceilings
      → Longest s ceilings h.uses_at (task_of s i).priority (max first end) h.uses r → r ≡ extra (view_of s h settings) i
  unfolding extra
  extra_is ceilings r w c longest =
      longest (λ k. cond (outside (view_of s h settings) i (use_of s h.uses_at k).priority && reaches (view_of s h settings) i k) (use_of s h.uses_at k).length 0)
      (λ k l. rw (not_outside k l))
      (λ k a l. rw (is_outside k a l, reaches_listed ceilings w c k l))
