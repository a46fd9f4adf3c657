-- The machine's table of a table's bytes has the bytes' figures.
use Prim.Native.Nat.{ℕ, zero, suc, ◌+◌, ◌*◌, ◌/◌, ◌%◌, ◌≤◌, ◌<◌}
use mathlib.Core.Path.{◌≡◌, refl, sym, ap, ap₂, ◌∙◌}
use mathlib.Core.Bool.{Bool, true, false, cond}
use mathlib.Core.List.{List}
use native.Mathlib.Decide.{dec_lt}
use native.Mathlib.Omega.{arith}
use lib.Dec.{ltb, eqb}
use lib.ListN.{get_or}
use borrow.Author.Tests.{eq-eqb, eqb-true, lt-ltb, le-ltb, ltb-true}
use Rattle.searches.specs.Searches.{only}
use Rattle.searches.proofs.Testing.{and_true}
use Rattle.searches.proofs.Indexed.{every_at}
use Rattle.searches.proofs.Searching.{largest_reaches, largest_below}
use Rattle.table.specs.declared.Shape.{Shape}
use Rattle.table.specs.declared.Use.{Use}
use Rattle.table.specs.WellFormed.{task_of, use_of, user_of, WellFormed}
use Rattle.equations.specs.View.{own_view}
use Rattle.equations.specs.Equations as equations
use Rattle.protocol.specs.Tasks.{Table, priority, setting}
use Rattle.protocol.specs.Running.{ceiling}
use Rattle.arrays.specs.View.{count_of}
use Rattle.scheduler.specs.View.{table_of}
use Rattle.scheduler.specs.Fresh.{names, times_of, all_times, fresh_of}
use Rattle.scheduler.proofs.Loading.{one_task, user_has}
use Rattle.scheduler.proofs.Beginning.{byte_of}

-- A use of the resource r by the task at q.
pub record UseOf (s : List ℕ) (h : Shape) (q r : ℕ) : Type 0 where
  pub index : ℕ
  pub inside : index < h.uses
  pub user : user_of s h.tasks h.uses_at index ≡ q
  pub resource : (use_of s h.uses_at index).resource ≡ r

-- The table T has the figures of the bytes s.
pub record Figures (s : List ℕ) (h : Shape) (T : Table) : Type 0 where
  pub size : T.size ≡ h.tasks
  pub priority_is : (i : ℕ) → i < T.size → priority T i ≡ (task_of s i).priority
  pub setting_is : (i : ℕ) → i < T.size → setting T i ≡ (own_view s h).setting i
  pub most_is : (i : ℕ) → i < T.size → (T.task i).most ≡ (task_of s i).sleeps
  pub use_of_lem : (q r : ℕ) → q < T.size → 0 < (T.task q).uses r → UseOf s h q r
  pub times_most : (k : ℕ) → k < h.uses
      → (T.task (user_of s h.tasks h.uses_at k)).uses (use_of s h.uses_at k).resource ≤ (use_of s h.uses_at k).times

-- ---- what the scheduler counts

module _ (s : List ℕ) (h : Shape) where
  -- a use
  abbrev usage : ℕ → Use
  usage = use_of s h.uses_at

  -- N by the first n uses is 0, or that of a use that names the priority and the resource: what holds of both holds of it
  times_by_lem : (P : ℕ → Type 0) (n p r : ℕ) → P 0 → ((j : ℕ) → j < n → names (usage j) p r ≡ true → P (usage j).times)
      → P (times_of s h.uses_at n p r)
  unfolding times_of
  times_by_lem P zero p r none each = none
  times_by_lem P (suc n) p r none each = go (names (usage n) p r) refl (times_by_lem P n p r none (λ j l. each j (omega arith)))
    where
      go : (b : Bool) → names (usage n) p r ≡ b → P (times_of s h.uses_at n p r) → P (cond b (usage n).times (times_of s h.uses_at n p r))
      go true e more = each n (omega arith) e
      go false e more = more

  module _ (W : WellFormed s h) where
    -- uses of one task and one resource are one
    one_use : {q r : ℕ} (A B : UseOf s h q r) → A.index ≡ B.index
    one_use A B = go (dec_lt A.index B.index) (dec_lt B.index A.index)
      where
        later : {q r : ℕ} (A B : UseOf s h q r) → A.index < B.index → ⊥
        later A B l = omega (arith, A.resource, B.resource, W.rising _ _ l B.inside (A.user ∙ sym B.user))

        go : Dec (A.index < B.index) → Dec (B.index < A.index) → A.index ≡ B.index
        go (yes l) d = absurd (later A B l)
        go (no l) (yes m) = absurd (later B A m)
        go (no l) (no m) = omega arith

    -- the slot of a task and a resource has N by all uses
    slot_has : (q r : ℕ) → q < h.tasks → r < 16
        → get_or (all_times s h) (q * 16 + r) 0 ≡ times_of s h.uses_at h.uses (task_of s q).priority (suc r)
    slot_has q r lt l =
        let task : (q * 16 + r) / 16 ≡ q = omega arith in
        let resource : (q * 16 + r) % 16 + 1 ≡ suc r = omega arith in
        every_at (λ j. only (ltb (j / 16) h.tasks) (times (j / 16) (j % 16 + 1))) 512 (q * 16 + r) 0 (omega (arith, W.tasks_most))
        ∙ ap₂ (λ a b. only (ltb a h.tasks) (times a b)) task resource ∙ rw (lt-ltb q h.tasks lt)
      where
        times : ℕ → ℕ → ℕ
        times a b = times_of s h.uses_at h.uses (task_of s a).priority b

    -- what is counted for a task and a resource is 0, or N of a use by it: what holds of both holds of it
    count_by : (P : ℕ → Type 0) (q r : ℕ) → q < h.tasks → P 0 → ((U : UseOf s h q r) → P (usage U.index).times)
        → P (count_of (all_times s h) q r)
    count_by P q zero lt none each = none
    count_by P q (suc r) lt none each = go (dec_lt r 16)
      where
        named : (j : ℕ) → j < h.uses → names (usage j) (task_of s q).priority (suc r) ≡ true → UseOf s h q (suc r)
        named j l e =
            let both = and_true (eqb (usage j).priority (task_of s q).priority) _ e in
            record {
              index = j;
              inside = l;
              user = one_task s h W _ q (W.owned j l) lt (user_has s h W j l ∙ eqb-true _ _ both.0);
              resource = eqb-true (usage j).resource (suc r) both.1;
            }

        go : Dec (r < 16) → P (count_of (all_times s h) q (suc r))
        go (yes l) =
            rw (lt-ltb r 16 l, slot_has q r lt l) (times_by_lem P h.uses (task_of s q).priority (suc r) none (λ j l e. each (named j l e)))
        go (no l) = rw (le-ltb r 16 (omega arith)) none

    -- the system setting that the equations see
    setting_seen : (i : ℕ) → i < h.tasks → (own_view s h).setting i ≡ (task_of s i).setting
    setting_seen i lt =
        every_at (λ k. cond (ltb k h.tasks) (task_of s k).setting 0) 32 i 0 (omega (arith, W.tasks_most)) ∙ rw (lt-ltb i h.tasks lt)

    -- so the scheduler that is set up on the bytes has their figures
    pub own_figures : Figures s h (table_of (fresh_of s h))
    own_figures = record {
      size = refl;
      priority_is = byte_of s h W 1;
      setting_is = λ i lt. byte_of s h W 2 i lt ∙ sym (setting_seen i lt);
      most_is = byte_of s h W 3;
      use_of_lem = λ q r lt. count_by (λ x. 0 < x → UseOf s h q r) q r lt (λ z. absurd (omega arith)) (λ U z. U);
      times_most = λ k lt. count_by (λ x. x ≤ (usage k).times) _ (usage k).resource (W.owned k lt) (omega arith)
          (λ U. omega (arith, ap (λ j. (usage j).times) (one_use U (record { index = k; inside = lt; user = refl; resource = refl }))));
    }

-- ---- what the figures say of uses

module _ {s : List ℕ} {h : Shape} {T : Table} (W : WellFormed s h) (F : Figures s h T) where
  -- a use stands with a task of the table
  pub user_inside : (k : ℕ) → k < h.uses → user_of s h.tasks h.uses_at k < T.size
  user_inside k lt = omega (arith, F.size, W.owned k lt)

  -- and names its priority
  pub user_priority_lem : (k : ℕ) → k < h.uses → (use_of s h.uses_at k).priority ≡ priority T (user_of s h.tasks h.uses_at k)
  user_priority_lem k lt = sym (F.priority_is _ (user_inside k lt) ∙ user_has s h W k lt)

  -- the machine's ceilings are no higher than those of the equations
  pub ceiling_most : (r : ℕ) → ceiling T r ≤ equations.ceiling (own_view s h) r
  unfolding ceiling equations.ceiling
  ceiling_most r = largest_below _ T.size _ (λ i lt. go i lt (ltb 0 ((T.task i).uses r)) refl)
    where
      go : (i : ℕ) → i < T.size → (b : Bool) → ltb 0 ((T.task i).uses r) ≡ b → only b (priority T i) ≤ equations.ceiling (own_view s h) r
      go i lt true e =
          let U = F.use_of_lem i r lt (ltb-true 0 ((T.task i).uses r) e) in
          let own = user_priority_lem U.index U.inside ∙ ap (priority T) U.user in
          largest_reaches _ h.uses U.index U.inside
          (rw (eq-eqb (use_of s h.uses_at U.index).resource r U.resource) (omega arith))
      go i lt false e = omega arith
