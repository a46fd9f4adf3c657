-- The first records of an accepted table, with an end, are accepted: its first tasks, or all its tasks and its first uses.
use Prim.Native.Nat.{ℕ, ◌+◌, ◌*◌, ◌≤◌, ◌<◌}
use mathlib.Core.Path.{◌≡◌, refl, sym, ap, ap₂, subst, ◌∙◌}
use mathlib.Core.Bool.{cond}
use mathlib.Core.List.{List, [], ◌∷◌, ◌++◌}
use mathlib.Core.Logic.{◌⊎◌, inl, inr}
use lib.Dec.{eqb}
use lib.ListN.{get_or, length, take, length-append, get_or-append}
use lib.Seq.{get_or-take, get_or_at, length-take-le}
use native.Mathlib.Omega.{arith}
use native.Mathlib.Decide.{dec_lt}
use Rattle.searches.specs.Indexed.{sum_to}
use Rattle.searches.proofs.Sums.{sum_to_none, sum_to_same, sum_to_grows}
use Rattle.table.specs.declared.Shape.{Shape}
use Rattle.table.specs.declared.Task.{Task}
use Rattle.table.specs.declared.Use.{Use}
use Rattle.std.specs.Prelude.{Ok}
use Rattle.table.specs.Rules.{place_from}
use Rattle.table.specs.Reading.{read_table}
use Rattle.table.specs.WellFormed.{task_of, use_of, user_of, sections_by, TaskInRange, UseInRange, WellFormed}
use Rattle.table.proofs.Agreeing.{task_same, use_same, place_same}
use Rattle.table.proofs.Accepted.{well_formed}
use Rattle.table.proofs.Complete.{complete}

-- ---- the front of a well-formed table

-- the counts of n task records and m use records
abbrev counted : ℕ → ℕ → Shape
counted n m = record { tasks = n; uses_at = 20 * n; uses = m }

-- the first k tasks and j uses, with an end
abbrev front_with : List ℕ → ℕ → ℕ → List ℕ
front_with s k j = take (20 * k + 8 * j) s ++ 3 ∷ []

module _ (s : List ℕ) (n m : ℕ) (f : WellFormed s (counted n m)) (k j : ℕ) (few : k ≤ n) (fewer : j ≤ m) (full : 0 < j → k ≡ n) where
  -- where the front ends
  front_length : length (take (20 * k + 8 * j) s) ≡ 20 * k + 8 * j
  front_length = length-take-le (20 * k + 8 * j) s (omega (arith, f.whole))

  -- before there it has the table's bytes
  front_same : (i : ℕ) → i < 20 * k + 8 * j → get_or (front_with s k j) i 0 ≡ get_or s i 0
  front_same i h = get_or-append (take (20 * k + 8 * j) s) (3 ∷ []) 0 i (omega (arith, front_length)) ∙ get_or-take (20 * k + 8 * j) s i 0 h

  -- each task is the table's
  task_front : (i : ℕ) → i < k → task_of (front_with s k j) i ≡ task_of s i
  task_front i l = task_same s (front_with s k j) (20 * k + 8 * j) front_same (20 * i) (omega arith)

  -- and each use
  use_front : (i : ℕ) → i < j → use_of (front_with s k j) (20 * k) i ≡ use_of s (20 * k) i
  use_front i l = use_same s (front_with s k j) (20 * k + 8 * j) front_same (20 * k + 8 * i) (omega arith)

  -- and the task of each use
  user_front : (i : ℕ) → i < j → user_of (front_with s k j) k (20 * k) i ≡ user_of s k (20 * k) i
  user_front i l =
      place_same s (front_with s k j) (20 * k + 8 * j) front_same k 0 (use_of (front_with s k j) (20 * k) i).priority (omega arith)
      ∙ ap (λ (u : Use). place_from k s 0 u.priority) (use_front i l)

  -- where there is a use, what is so of all the tasks is so of the front's
  moved : (P : ℕ → Type 0) (i : ℕ) → i < j → P n → P k
  moved P i l p = subst P (sym (full (omega arith))) p

  -- the sections of a task are no longer than the table's
  sections_front : (i : ℕ) → i < k → sum_to (sections_by (front_with s k j) k (20 * k) i) j ≤ (task_of (front_with s k j) i).run
  sections_front i l =
      let here : sum_to (sections_by (front_with s k j) k (20 * k) i) j ≡ sum_to (sections_by s k (20 * k) i) j =
      sum_to_same (sections_by (front_with s k j) k (20 * k) i) (sections_by s k (20 * k) i) j
      (λ x h. ap₂ (λ (a : ℕ) (u : Use). cond (eqb a i) (u.times * u.length) 0) (user_front x h) (use_front x h)) in
      let run : (task_of (front_with s k j) i).run ≡ (task_of s i).run = ap (λ (t : Task). t.run) (task_front i l) in
      go here run (dec_lt 0 j)
    where
      go : sum_to (sections_by (front_with s k j) k (20 * k) i) j ≡ sum_to (sections_by s k (20 * k) i) j
          → (task_of (front_with s k j) i).run ≡ (task_of s i).run → Dec (0 < j)
          → sum_to (sections_by (front_with s k j) k (20 * k) i) j ≤ (task_of (front_with s k j) i).run
      go here run (yes some) =
          let all = moved (λ x. sum_to (sections_by s x (20 * x) i) m ≤ (task_of s i).run) 0 some (f.sections i (omega arith)) in
          omega (arith, sum_to_grows (sections_by s k (20 * k) i) j m fewer)
      go here run (no none) = omega (arith, sum_to_none (sections_by s k (20 * k) i) j (omega arith))

  -- the front is well formed
  front_well : 1 ≤ k → WellFormed (front_with s k j) (counted k j)
  front_well some = record {
    some = some;
    tasks_most = omega (arith, f.tasks_most);
    uses_most = omega (arith, f.uses_most);
    start = refl;
    whole = length-append (take (20 * k + 8 * j) s) (3 ∷ []) ∙ ap (λ (x : ℕ). x + 1) front_length;
    task_kind = λ i l. front_same (20 * i) (omega arith) ∙ f.task_kind i (omega arith);
    use_kind = λ i l. front_same (20 * k + 8 * i) (omega arith) ∙ moved (λ x. get_or s (20 * x + 8 * i) 0 ≡ 2) i l (f.use_kind i (omega arith));
    end_kind = get_or_at (take (20 * k + 8 * j) s) 3 [] 0 (20 * k + 8 * j) front_length;
    task_range = λ i l. subst TaskInRange (sym (task_front i l)) (f.task_range i (omega arith));
    priority_most = λ i l. omega (arith, ap (λ (t : Task). t.priority) (task_front i l), f.priority_most i (omega arith));
    falling = λ i e l h.
        omega (arith, ap (λ (t : Task). t.priority) (task_front i (omega arith)), ap (λ (t : Task). t.priority) (task_front e h), f.falling i e l (omega arith));
    use_range = λ i l.
        subst UseInRange (sym (use_front i l)) (moved (λ x. UseInRange (use_of s (20 * x) i)) i l (f.use_range i (omega arith)));
    owned = λ i l. omega (arith, user_front i l, moved (λ x. user_of s x (20 * x) i < x) i l (f.owned i (omega arith)));
    in_order = λ i e l h.
        omega (
          arith,
          user_front i (omega arith),
          user_front e h,
          moved (λ x. user_of s x (20 * x) i ≤ user_of s x (20 * x) e) e h (f.in_order i e l (omega arith)),
        );
    rising = λ i e l h q.
        omega (
          arith,
          ap (λ (u : Use). u.resource) (use_front i (omega arith)),
          ap (λ (u : Use). u.resource) (use_front e h),
          moved (λ x. user_of s x (20 * x) i ≡ user_of s x (20 * x) e → (use_of s (20 * x) i).resource < (use_of s (20 * x) e).resource) e h
              (f.rising i e l (omega arith)) (sym (user_front i (omega arith)) ∙ q ∙ user_front e h),
        );
    sections = sections_front;
  }

-- a shape with its start is one by its counts
shape_counted : (s : List ℕ) (h : Shape) → WellFormed s h → h ≡ counted h.tasks h.uses
shape_counted s h f = rw (← f.start)

-- the first records of an accepted table, with an end, are accepted: its first tasks, or all its tasks and its first uses
pub prefix_accepted : (s : List ℕ) (h : Shape) → read_table s ≡ Ok h → (k j : ℕ) → 1 ≤ k → k ≤ h.tasks → j ≤ h.uses → (j ≡ 0) ⊎ (k ≡ h.tasks)
    → read_table (take (20 * k + 8 * j) s ++ 3 ∷ []) ≡ Ok (record { tasks = k; uses_at = 20 * k; uses = j })
prefix_accepted s h e k j some few fewer full =
    let f = well_formed s h e in
    let g = subst (WellFormed s) (shape_counted s h f) f in
    complete (front_with s k j) (counted k j) (front_well s h.tasks h.uses g k j few fewer (fill full) some)
  where
    fill : (j ≡ 0) ⊎ (k ≡ h.tasks) → 0 < j → k ≡ h.tasks
    fill (inl z) l = absurd (omega arith)
    fill (inr z) l = z
