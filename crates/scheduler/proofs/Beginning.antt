-- A scheduler that is set up on an accepted table is a fresh one, and its tasks are lawful.
use mathlib.Core.Path.{◌≡◌, refl, sym, ap, fun_ext, ◌∙◌}
use mathlib.Core.Bool.{Bool, true, false}
use mathlib.Core.List.{List}
use Prim.Native.Nat.{ℕ, zero, suc, ◌+◌, ◌*◌, ◌<◌}
use native.Mathlib.Omega.{arith}
use lib.Dec.{ltb}
use lib.ListN.{get_or, replicate, length-replicate}
use borrow.Author.Tests.{lt-ltb}
use Rattle.searches.specs.Searches.{only}
use Rattle.protocol.specs.State.{fresh}
use Rattle.protocol.specs.Accepted.{Accepted}
use Rattle.table.specs.declared.Shape.{Shape}
use Rattle.std.proofs.Common.{Ok}
use Rattle.table.specs.Reading.{read_table}
use Rattle.table.specs.WellFormed.{WellFormed}
use Rattle.searches.proofs.Indexed.{length_every, every_at, same_at}
use Rattle.arrays.specs.View.{status_of, count_of, sections_by}
use Rattle.scheduler.specs.View.{Sized, table_of, entry_of, state_of}
use Rattle.scheduler.specs.Fresh.{column, fresh_of, set_up_by, set_up}
use Rattle.scheduler.proofs.Loading.{one_task}

-- ---- no job yet

-- no count
no_counts : (k r : ℕ) → count_of (replicate 512 0) k r ≡ 0
no_counts k zero = refl
no_counts k (suc r) = go (ltb r 16)
  where
    go : (b : Bool) → only b (get_or (replicate 512 0) (k * 16 + r) 0) ≡ 0
    go true = same_at {A = ℕ} 0 512 (k * 16 + r)
    go false = refl

module _ (s : List ℕ) (h : Shape) where
  -- the view is the fresh state
  pub fresh_view : state_of (fresh_of s h) ≡ fresh
  unfolding sections_by
  fresh_view = ap (λ f. record { entry = f; sections = fresh.sections }) (fun_ext entry)
    where
      entry : (k : ℕ) → entry_of (fresh_of s h) k ≡ fresh.entry k
      entry k =
          let status = ap status_of (same_at {A = ℕ} 0 32 k) in
          let started = same_at false 32 k in
          let number = same_at {A = ℕ} 0 32 k in
          let opened = fun_ext (no_counts k) in
          λ i. record { status = status i; started = started i; sleeps = number i; opened = opened i; held = number i; next = number i }

  -- the arrays have their lengths
  pub fresh_sized : Sized (fresh_of s h)
  fresh_sized = record {
    priorities = length_every _ 32 0;
    settings = length_every _ 32 0;
    most = length_every _ 32 0;
    uses = length_every _ 512 0;
    states = length-replicate {A = ℕ} 32 0;
    started = length-replicate 32 false;
    sleeps = length-replicate {A = ℕ} 32 0;
    opened = length-replicate {A = ℕ} 512 0;
    held = length-replicate {A = ℕ} 32 0;
    serials = length-replicate {A = ℕ} 32 0;
    places = length-replicate {A = ℕ} 16 0;
    resources = length-replicate {A = ℕ} 16 0;
  }

  -- ---- the tasks of an accepted table

  module _ (W : WellFormed s h) where
    -- a byte of a task's record
    pub byte_of : (field i : ℕ) → i < h.tasks → get_or (column s h.tasks field) i 0 ≡ get_or s (20 * i + field) 0
    byte_of field i lt =
        every_at (λ k. only (ltb k h.tasks) (get_or s (20 * k + field) 0)) 32 i 0 (omega (arith, W.tasks_most)) ∙ rw (lt-ltb i h.tasks lt)

    -- at most 32 tasks, falling priorities, settings below them, and no use of a resource 0
    pub fresh_accepted : Accepted (table_of (fresh_of s h))
    fresh_accepted = record {
      few = W.tasks_most;
      unique = λ i j li lj e. one_task s h W i j li lj (sym (byte_of 1 i li) ∙ e ∙ byte_of 1 j lj);
      below = λ i lt. omega (arith, byte_of 1 i lt, byte_of 2 i lt, (W.task_range i lt).setting);
      proper = λ i. refl;
    }

  -- setting up on an accepted table
  pub set_up_fresh : read_table s ≡ Ok h → (set_up s).scheduler ≡ fresh_of s h
  unfolding set_up_by
  set_up_fresh e = ap (λ q. (set_up_by q s).scheduler) e
