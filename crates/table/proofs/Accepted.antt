-- An accepted table is well formed: what the walk has seen of it, from the reader's definition alone.
use Prim.Native.Nat.{ℕ, ◌+◌, ◌*◌, ◌-◌, ◌≤◌, ◌<◌}
use mathlib.Core.Path.{◌≡◌, refl, sym, ap, subst, ◌∙◌}
use mathlib.Core.Bool.{Bool, cond}
use mathlib.Core.List.{List}
use lib.Dec.{eqb}
use lib.ListN.{get_or, length}
use native.Mathlib.Omega.{arith}
use native.Mathlib.Decide.{ℕ_discrete}
use borrow.Author.Count.{below_more}
use borrow.Author.Tests.{eq-eqb, ne_eqb}
use Rattle.searches.specs.Indexed.{sum_to}
use Rattle.searches.proofs.Sums.{sum_to_none, sum_to_more}
use Rattle.table.specs.declared.Shape.{Shape}
use Rattle.table.specs.declared.walk.Walk.{Walk}
use Rattle.std.specs.Prelude.{Ok}
use Rattle.table.specs.Fields.{task_at, use_at, word_at}
use Rattle.table.specs.Rules.{task_rule, use_rule, place_from, sum_after, with_task, with_use, stands}
use Rattle.table.specs.Reading.{start_walk, user_at, read_table}
use Rattle.table.specs.WellFormed.{task_of, use_of, user_of, sections_by, TaskInRange, UseInRange, WellFormed}
use Rattle.table.proofs.Laws.{place_within, place_has, place_first}
use Rattle.table.proofs.Told.{task_stands, UseStands, use_stands}
use Rattle.table.proofs.Walked.{accepted}

-- what the walk has seen; the uses start at 20 * w.tasks once there is one
pub record Seen (s : List ℕ) (w : Walk) : Type 0 where
  pub place : w.at ≡ 20 * w.tasks + 8 * w.uses
  pub tasks_most : w.tasks ≤ 32
  pub user_most : w.user < 32
  pub least_most : w.least ≤ 17
  pub uses_most : w.uses ≤ 16 * w.user + (w.least - 1)
  pub task_kind : (i : ℕ) → i < w.tasks → get_or s (20 * i) 0 ≡ 1
  pub use_kind : (j : ℕ) → j < w.uses → get_or s (20 * w.tasks + 8 * j) 0 ≡ 2
  pub task_range : (i : ℕ) → i < w.tasks → TaskInRange (task_of s i)
  pub last_most : w.last ≤ 256
  pub priority_most : (i : ℕ) → i < w.tasks → (task_of s i).priority ≤ 255
  pub last : (i : ℕ) → i < w.tasks → w.last ≤ (task_of s i).priority
  pub falling : (j : ℕ) → j < w.tasks → (i : ℕ) → i < j → (task_of s j).priority < (task_of s i).priority
  pub use_range : (j : ℕ) → j < w.uses → UseInRange (use_of s (20 * w.tasks) j)
  pub owned : (j : ℕ) → j < w.uses → user_of s w.tasks (20 * w.tasks) j < w.tasks
  pub behind : (j : ℕ) → j < w.uses → user_of s w.tasks (20 * w.tasks) j ≤ w.user
  pub below : (j : ℕ) → j < w.uses → user_of s w.tasks (20 * w.tasks) j ≡ w.user → (use_of s (20 * w.tasks) j).resource < w.least
  pub in_order : (k : ℕ) → k < w.uses → (j : ℕ) → j < k → user_of s w.tasks (20 * w.tasks) j ≤ user_of s w.tasks (20 * w.tasks) k
  pub rising : (k : ℕ) → k < w.uses → (j : ℕ) → j < k → user_of s w.tasks (20 * w.tasks) j ≡ user_of s w.tasks (20 * w.tasks) k
      → (use_of s (20 * w.tasks) j).resource < (use_of s (20 * w.tasks) k).resource
  pub sum : sum_to (sections_by s w.tasks (20 * w.tasks) w.user) w.uses ≡ w.sum
  pub unused : (i : ℕ) → w.user < i → sum_to (sections_by s w.tasks (20 * w.tasks) i) w.uses ≡ 0
  pub sections : (i : ℕ) → i < w.tasks → sum_to (sections_by s w.tasks (20 * w.tasks) i) w.uses ≤ (task_of s i).run

pub seen_start : (s : List ℕ) → Seen s start_walk
unfolding sum_to
seen_start s = record {
  place = refl;
  tasks_most = omega arith;
  user_most = omega arith;
  least_most = omega arith;
  uses_most = omega arith;
  task_kind = λ i h. absurd (omega arith);
  use_kind = λ i h. absurd (omega arith);
  task_range = λ i h. absurd (omega arith);
  last_most = omega arith;
  priority_most = λ i h. absurd (omega arith);
  last = λ i h. absurd (omega arith);
  falling = λ i h. absurd (omega arith);
  use_range = λ i h. absurd (omega arith);
  owned = λ i h. absurd (omega arith);
  behind = λ i h. absurd (omega arith);
  below = λ i h. absurd (omega arith);
  in_order = λ i h. absurd (omega arith);
  rising = λ i h. absurd (omega arith);
  sum = refl;
  unused = λ i h. refl;
  sections = λ i h. absurd (omega arith);
}

pub seen_task : (s : List ℕ) (w : Walk) → Seen s w → get_or s w.at 0 ≡ 1 → w.at + 20 ≤ length s → task_rule w (task_at s w.at) ≡ stands
    → Seen s (with_task w (task_at s w.at))
seen_task s w g k room e =
    let t = task_at s w.at in
    let st = task_stands w t e in
    let none = st.first in
    let here : w.at ≡ 20 * w.tasks = omega (arith, g.place) in
    let same : t.priority ≡ (task_of s w.tasks).priority = ap (λ (x : ℕ). (task_at s x).priority) here in
    let less = st.below in
    let empty : w.sum ≡ 0 = sym g.sum ∙ sum_to_none _ w.uses none in
    record {
      place = omega (arith, g.place);
      tasks_most = omega (arith, st.few);
      user_most = g.user_most;
      least_most = g.least_most;
      uses_most = g.uses_most;
      task_kind = below_more (λ i. get_or s (20 * i) 0 ≡ 1) w.tasks g.task_kind (ap (λ (a : ℕ). get_or s a 0) (sym here) ∙ k);
      use_kind = λ j h. absurd (omega arith);
      task_range = below_more (λ i. TaskInRange (task_of s i)) w.tasks g.task_range (subst (λ a. TaskInRange (task_at s a)) here st.range);
      last_most = omega (arith, g.last_most);
      priority_most = below_more (λ i. (task_of s i).priority ≤ 255) w.tasks g.priority_most (omega (arith, g.last_most));
      last = below_more (λ i. t.priority ≤ (task_of s i).priority) w.tasks (λ i h. omega (arith, g.last i h)) (omega arith);
      falling = below_more (λ j. (i : ℕ) → i < j → (task_of s j).priority < (task_of s i).priority) w.tasks g.falling (λ i h. omega (arith, g.last i h));
      use_range = λ j h. absurd (omega arith);
      owned = λ j h. absurd (omega arith);
      behind = λ j h. absurd (omega arith);
      below = λ j h. absurd (omega arith);
      in_order = λ j h. absurd (omega arith);
      rising = λ j h. absurd (omega arith);
      sum = sum_to_none _ w.uses none ∙ sym empty;
      unused = λ i h. sum_to_none _ w.uses none;
      sections = λ i h. let z = sum_to_none (sections_by s (w.tasks + 1) (20 * (w.tasks + 1)) i) w.uses none in omega arith;
    }

-- ---- a use

-- the task that the walk finds from the last use's on is the one with that priority among all
pub user_found : (s : List ℕ) (w : Walk) → Seen s w → user_at s w < w.tasks → place_from w.tasks s 0 (use_at s w.at).priority ≡ user_at s w
user_found s w g lt =
    let p = (use_at s w.at).priority in
    let i = user_at s w in
    let has = place_has (w.tasks - w.user) s w.user p (let q = place_within (w.tasks - w.user) s w.user p in omega arith) in
    place_first w.tasks s 0 p i (omega arith) (omega arith) has (λ n h e. let f = g.falling i lt n h in omega arith)

-- and so the task of the use that comes next
user_is : (s : List ℕ) (w : Walk) → Seen s w → user_at s w < w.tasks → user_of s w.tasks (20 * w.tasks) w.uses ≡ user_at s w
user_is s w g lt = ap (λ (a : ℕ). place_from w.tasks s 0 (use_at s a).priority) (sym g.place) ∙ user_found s w g lt

-- what the use at the walk's place adds to each task's sections
section_more : (s : List ℕ) (w : Walk) → Seen s w → user_at s w < w.tasks → (m : ℕ)
    → sum_to (sections_by s w.tasks (20 * w.tasks) m) (w.uses + 1)
    ≡ sum_to (sections_by s w.tasks (20 * w.tasks) m) w.uses + cond (eqb (user_at s w) m) ((use_at s w.at).times * (use_at s w.at).length) 0
section_more s w g lt m =
    sum_to_more (sections_by s w.tasks (20 * w.tasks) m) w.uses
    ∙ ap (λ (x : ℕ). sum_to (sections_by s w.tasks (20 * w.tasks) m) w.uses + x)
    (ap (λ (i : ℕ). cond (eqb i m) ((use_of s (20 * w.tasks) w.uses).times * (use_of s (20 * w.tasks) w.uses).length) 0) (user_is s w g lt)
    ∙ ap (λ (a : ℕ). cond (eqb (user_at s w) m) ((use_at s a).times * (use_at s a).length) 0) (sym g.place))

module _ (s : List ℕ) (w : Walk) (g : Seen s w) (lt : user_at s w < w.tasks) (on : w.user ≤ user_at s w) where
  -- with the use, the sections of its task
  pub sum_own : sum_to (sections_by s w.tasks (20 * w.tasks) (user_at s w)) (w.uses + 1) ≡ sum_after w (use_at s w.at) (user_at s w)
  unfolding sum_after
  sum_own = section_more s w g lt (user_at s w) ∙ go (ℕ_discrete (user_at s w) w.user)
    where
      go : Dec (user_at s w ≡ w.user)
          → sum_to (sections_by s w.tasks (20 * w.tasks) (user_at s w)) w.uses + cond (eqb (user_at s w) (user_at s w)) ((use_at s w.at).times * (use_at s w.at).length) 0
          ≡ cond (eqb (user_at s w) w.user) (w.sum + (use_at s w.at).times * (use_at s w.at).length) ((use_at s w.at).times * (use_at s w.at).length)
      go (yes e) =
          rw (eq-eqb (user_at s w) (user_at s w) refl, eq-eqb (user_at s w) w.user e)
          (ap (λ (i : ℕ). sum_to (sections_by s w.tasks (20 * w.tasks) i) w.uses + (use_at s w.at).times * (use_at s w.at).length) e
          ∙ ap (λ (x : ℕ). x + (use_at s w.at).times * (use_at s w.at).length) g.sum)
      go (no n) =
          rw (eq-eqb (user_at s w) (user_at s w) refl, ne_eqb (user_at s w) w.user n)
          (let z = g.unused (user_at s w) (omega arith) in omega arith)

  -- and those of another, which it leaves as they are
  sum_other : (m : ℕ) → (user_at s w ≡ m → ⊥) → sum_to (sections_by s w.tasks (20 * w.tasks) m) (w.uses + 1) ≡ sum_to (sections_by s w.tasks (20 * w.tasks) m) w.uses
  sum_other m n =
      let e = ap (λ (b : Bool). cond b ((use_at s w.at).times * (use_at s w.at).length) 0) (ne_eqb (user_at s w) m n) in
      let f = section_more s w g lt m in
      omega arith

pub seen_use : (s : List ℕ) (w : Walk) → Seen s w → get_or s w.at 0 ≡ 2 → w.at + 8 ≤ length s
    → use_rule w (use_at s w.at) (user_at s w) (word_at s (20 * user_at s w + 4)) ≡ stands → Seen s (with_use w (use_at s w.at) (user_at s w))
seen_use s w g k room e =
    let u = use_at s w.at in
    let i = user_at s w in
    let n = w.tasks in
    let b = 20 * w.tasks in
    let st = use_stands w u i (word_at s (20 * i + 4)) e in
    let lt = st.owned in
    let on = (place_within (n - w.user) s w.user u.priority).0 in
    let io = user_is s w g lt in
    let ro : (use_of s b w.uses).resource ≡ u.resource = ap (λ (a : ℕ). (use_at s a).resource) (sym g.place) in
    let low = st.range.resource in
    let high = st.range.resource_most in
    let after : (j : ℕ) → j < w.uses → user_of s n b j ≡ i → (use_of s b j).resource < u.resource =
    λ j h z. let q : i ≡ w.user = omega (arith, g.behind j h) in omega (arith, st.rises q, g.below j h (omega arith)) in
    record {
      place = omega (arith, g.place);
      tasks_most = g.tasks_most;
      user_most = omega (arith, g.tasks_most);
      least_most = omega arith;
      uses_most = uses_most (ℕ_discrete i w.user) st;
      task_kind = g.task_kind;
      use_kind = below_more (λ j. get_or s (b + 8 * j) 0 ≡ 2) w.uses g.use_kind (ap (λ (a : ℕ). get_or s a 0) (sym g.place) ∙ k);
      task_range = g.task_range;
      last_most = g.last_most;
      priority_most = g.priority_most;
      last = g.last;
      falling = g.falling;
      use_range = below_more (λ j. UseInRange (use_of s b j)) w.uses g.use_range (subst (λ a. UseInRange (use_at s a)) g.place st.range);
      owned = below_more (λ j. user_of s n b j < n) w.uses g.owned (omega arith);
      behind = below_more (λ j. user_of s n b j ≤ i) w.uses (λ j h. omega (arith, g.behind j h)) (omega arith);
      below = below_more (λ j. user_of s n b j ≡ i → (use_of s b j).resource < u.resource + 1) w.uses (λ j h z. omega (arith, after j h z)) (λ z. omega arith);
      in_order = below_more (λ m. (j : ℕ) → j < m → user_of s n b j ≤ user_of s n b m) w.uses g.in_order (λ j h. omega (arith, g.behind j h));
      rising = below_more (λ m. (j : ℕ) → j < m → user_of s n b j ≡ user_of s n b m → (use_of s b j).resource < (use_of s b m).resource) w.uses g.rising
          (λ j h z. omega (arith, after j h (z ∙ io)));
      sum = sum_own s w g lt on;
      unused = λ m h. sum_other s w g lt on m (λ z. omega arith) ∙ g.unused m (omega arith);
      sections = λ m h. sections m h (ℕ_discrete i m) lt on st.sum;
    }
  where
    uses_most : Dec (user_at s w ≡ w.user) → UseStands w (use_at s w.at) (user_at s w) (word_at s (20 * user_at s w + 4))
        → w.uses + 1 ≤ 16 * user_at s w + ((use_at s w.at).resource + 1 - 1)
    uses_most (yes q) st = omega (arith, g.uses_most, g.least_most, st.rises q, st.range.resource)
    uses_most (no q) st =
        omega (arith, g.uses_most, g.least_most, st.range.resource, (place_within (w.tasks - w.user) s w.user (use_at s w.at).priority).0)

    sections : (m : ℕ) → m < w.tasks → Dec (user_at s w ≡ m) → user_at s w < w.tasks → w.user ≤ user_at s w
        → sum_after w (use_at s w.at) (user_at s w) ≤ word_at s (20 * user_at s w + 4)
        → sum_to (sections_by s w.tasks (20 * w.tasks) m) (w.uses + 1) ≤ (task_of s m).run
    sections m h (yes q) lt on most =
        subst (λ (x : ℕ). sum_to (sections_by s w.tasks (20 * w.tasks) x) (w.uses + 1) ≤ word_at s (20 * x + 4)) q (omega (arith, sum_own s w g lt on))
    sections m h (no q) lt on most = omega (arith, sum_other s w g lt on m q, g.sections m h)

-- ---- the table

pub well_formed : (s : List ℕ) (h : Shape) → read_table s ≡ Ok h → WellFormed s h
well_formed s h e =
    let r = accepted s (Seen s) (seen_task s) (seen_use s) (seen_start s) h e in
    let g = r.kept in
    subst (WellFormed s) (sym r.shape) (record {
      some = r.some;
      tasks_most = g.tasks_most;
      uses_most = omega (arith, g.uses_most, g.user_most, g.least_most);
      start = refl;
      whole = omega (arith, r.last, g.place);
      task_kind = g.task_kind;
      use_kind = g.use_kind;
      end_kind = ap (λ (a : ℕ). get_or s a 0) (sym g.place) ∙ r.kind;
      task_range = g.task_range;
      priority_most = g.priority_most;
      falling = λ i j a b. g.falling j b i a;
      use_range = g.use_range;
      owned = g.owned;
      in_order = λ j k a b. g.in_order k b j a;
      rising = λ j k a b. g.rising k b j a;
      sections = g.sections;
    })
