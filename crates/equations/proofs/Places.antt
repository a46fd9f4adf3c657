-- Higher tasks by priority are those at earlier places, since priorities fall.
use Prim.Native.Nat.{ℕ, ◌≤◌, ◌<◌}
use mathlib.Core.Path.{◌≡◌, ap}
use mathlib.Core.Bool.{Bool, cond}
use mathlib.Core.List.{List}
use native.Mathlib.Decide.{ℕ_discrete}
use native.Mathlib.Omega.{arith}
use borrow.Author.Tests.{lt-ltb, le-ltb}
use Rattle.searches.specs.Indexed.{sum_to}
use Rattle.searches.proofs.Sums.{sum_to_first}
use Rattle.table.specs.declared.Shape.{Shape}
use Rattle.table.specs.WellFormed.{task_of, WellFormed}
use Rattle.equations.specs.View.{view_of}
use Rattle.equations.specs.Equations.{addition, additions}

-- what higher tasks add, by place
pub additions_by_place : (s : List ℕ) (h : Shape) (settings v : List ℕ) (i t : ℕ) → WellFormed s h → i < h.tasks
    → additions (view_of s h settings) i v t ≡ sum_to (addition (view_of s h settings) i v t) i
unfolding additions
additions_by_place s h settings v i t w l =
    sum_to_first (addition (view_of s h settings) i v t) _ i h.tasks (omega arith)
    (λ j p. ap (λ (b : Bool). cond b (addition (view_of s h settings) i v t j) 0) (lt-ltb (task_of s i).priority (task_of s j).priority (w.falling j i p l)))
    (λ j p q. ap (λ (b : Bool). cond b (addition (view_of s h settings) i v t j) 0) (le-ltb (task_of s i).priority (task_of s j).priority (lower j q (ℕ_discrete i j) p)))
  where
    lower : (j : ℕ) → j < h.tasks → Dec (i ≡ j) → i ≤ j → (task_of s j).priority ≤ (task_of s i).priority
    lower j q (yes e) p = rw e (omega arith)
    lower j q (no d) p = omega (arith, w.falling i j (omega arith) q)
