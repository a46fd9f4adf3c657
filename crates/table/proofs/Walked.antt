-- What every step of the walk keeps holds at the end record of an accepted table: the induction over its records.
use Prim.Native.Nat.{ℕ, zero, suc, ◌+◌, ◌*◌, ◌-◌, ◌≤◌, ◌<◌}
use mathlib.Core.Path.{◌≡◌, refl, ap, subst, ◌∙◌}
use mathlib.Core.Logic.{◌⊎◌, inl, inr, ⊎_elim}
use mathlib.Core.Bool.{Bool, true, false, cond}
use mathlib.Core.List.{List}
use lib.Dec.{ltb, leb, eqb}
use lib.ListN.{get_or, length}
use native.Mathlib.Omega.{arith}
use borrow.Author.Tests.{le-ltb, lt-leb, ltb-false, leb-false, eqb-true, eqb-false}
use Rattle.searches.proofs.Testing.{impossible}
use Rattle.std.specs.Prelude.{Option, Some, None, Result, Ok, Err}
use Rattle.table.specs.declared.Shape.{Shape}
use Rattle.table.specs.declared.Refusal.{Refusal}
use Rattle.table.specs.declared.walk.Walk.{Walk}
use Rattle.table.specs.declared.walk.Step.{Step}
use Rattle.table.specs.declared.walk.Step.TheVariants.{On, Done}
use Rattle.table.specs.declared.walk.Kind.{Kind}
use Rattle.table.specs.declared.walk.Kind.TheVariants as kinds
use Rattle.table.specs.Fields.{word_at, task_at, use_at}
use Rattle.table.specs.Rules.{task_rule, use_rule, with_task, with_use, Ruling, stands}
use Rattle.table.specs.Reading.{Reading, start_walk, ruled, task_step, use_step, end_step, kind_of, going, ending, step_of, step_at, user_at, onward, read_from, read_table}

-- ---- the step at a whole record

module _ (s : List ℕ) (w : Walk) where
  -- at a task: what its rule says
  pub task_turn : get_or s w.at 0 ≡ 1 → w.at + 20 ≤ length s
      → step_at s w ≡ going (ruled (task_rule w (task_at s w.at)) w.at (with_task w (task_at s w.at)))
  unfolding step_at task_step
  task_turn k room = rw (lt-leb (length s) w.at (omega arith), k, le-ltb (length s - w.at) 20 (omega arith))

  -- at a use: what its rule says
  pub use_turn_lem : get_or s w.at 0 ≡ 2 → w.at + 8 ≤ length s
      → step_at s w ≡ going (ruled (use_rule w (use_at s w.at) (user_at s w) (word_at s (20 * user_at s w + 4))) w.at (with_use w (use_at s w.at) (user_at s w)))
  unfolding step_at use_step
  use_turn_lem k room = rw (lt-leb (length s) w.at (omega arith), k, le-ltb (length s - w.at) 8 (omega arith))

-- ---- which way a test went

-- an answer behind a test that refuses
past : {A : Type 0} (x : A) (b : Bool) (r : Refusal) (a : Result A Refusal) → cond b (Err r) a ≡ Ok x → (b ≡ false) × (a ≡ Ok x)
past x true r a e = absurd (impossible cc)
past x false r a e = (refl, e)

-- a record that its rule passes
passed : (n : Walk) (k : Ruling) (p : ℕ) (w : Walk) → ruled k p w ≡ Ok n → (k ≡ stands) × (w ≡ n)
passed n (Ok _) p w e = (refl, cc)
passed n (Err y) p w e = absurd (impossible cc)

-- the byte of a kind
kind_byte : Kind → ℕ
kind_byte kinds.Task = 1
kind_byte kinds.Use = 2
kind_byte kinds.End = 3

-- is the one that says it
kind_told : (b : ℕ) (k : Kind) → kind_of b ≡ Some k → b ≡ kind_byte k
unfolding kind_byte
kind_told b k = go (eqb b 1) refl (eqb b 2) refl (eqb b 3) refl
  where
    go : (p : Bool) → eqb b 1 ≡ p → (q : Bool) → eqb b 2 ≡ q → (r : Bool) → eqb b 3 ≡ r
        → cond p (Some kinds.Task) (cond q (Some kinds.Use) (cond r (Some kinds.End) None)) ≡ Some k → b ≡ kind_byte k
    go true h q i r j e = eqb-true b 1 h ∙ ap kind_byte (let z : kinds.Task ≡ k = cc in z)
    go false h true i r j e = eqb-true b 2 i ∙ ap kind_byte (let z : kinds.Use ≡ k = cc in z)
    go false h false i true j e = eqb-true b 3 j ∙ ap kind_byte (let z : kinds.End ≡ k = cc in z)
    go false h false i false j e = absurd (impossible cc)

-- a step that goes on is one over a task or a use
on_told : (n : Walk) (x : Result Walk Refusal) → going x ≡ Ok (On n) → x ≡ Ok n
on_told n (Ok w) e = cc
on_told n (Err r) e = absurd (impossible cc)

never_on : {G : Type 0} (n : Walk) (x : Reading) → ending x ≡ Ok (On n) → G
never_on n (Ok h) e = absurd (impossible cc)
never_on n (Err r) e = absurd (impossible cc)

-- one that is done is one at the end record
done_told : (h : Shape) (x : Reading) → ending x ≡ Ok (Done h) → x ≡ Ok h
done_told h (Ok a) e = cc
done_told h (Err r) e = absurd (impossible cc)

never_done : {G : Type 0} (h : Shape) (x : Result Walk Refusal) → going x ≡ Ok (Done h) → G
never_done h (Ok w) e = absurd (impossible cc)
never_done h (Err r) e = absurd (impossible cc)

module _ (s : List ℕ) (w : Walk) where
  went_on : (n : Walk) (k : Option Kind) → kind_of (get_or s w.at 0) ≡ k → step_of k s w ≡ Ok (On n)
      → ((get_or s w.at 0 ≡ 1) × (task_step s w ≡ Ok n)) ⊎ ((get_or s w.at 0 ≡ 2) × (use_step s w ≡ Ok n))
  unfolding kind_byte
  went_on n (Some kinds.Task) k e = inl (kind_told _ _ k, on_told n (task_step s w) e)
  went_on n (Some kinds.Use) k e = inr (kind_told _ _ k, on_told n (use_step s w) e)
  went_on n (Some kinds.End) k e = never_on n (end_step s w) e
  went_on n None k e = absurd (impossible cc)

  was_done : (h : Shape) (k : Option Kind) → kind_of (get_or s w.at 0) ≡ k → step_of k s w ≡ Ok (Done h)
      → (get_or s w.at 0 ≡ 3) × (end_step s w ≡ Ok h)
  unfolding kind_byte
  was_done h (Some kinds.Task) k e = never_done h (task_step s w) e
  was_done h (Some kinds.Use) k e = never_done h (use_step s w) e
  was_done h (Some kinds.End) k e = (kind_told _ _ k, done_told h (end_step s w) e)
  was_done h None k e = absurd (impossible cc)

  -- a step that goes on is over a whole record that its rule passes
  record Over (n : Walk) (size : ℕ) (rule : Ruling) (next : Walk) : Type 0 where
    room : w.at + size ≤ length s
    passes : rule ≡ stands
    same : next ≡ n

  task_over : (n : Walk) → w.at < length s → task_step s w ≡ Ok n → Over n 20 (task_rule w (task_at s w.at)) (with_task w (task_at s w.at))
  unfolding task_step
  task_over n l e =
      let q = past n (ltb (length s - w.at) 20) _ _ e in
      let room = ltb-false (length s - w.at) 20 q.0 in
      let r = passed n (task_rule w (task_at s w.at)) w.at _ q.1 in
      record { room = omega arith; passes = r.0; same = r.1 }

  use_over : (n : Walk) → w.at < length s → use_step s w ≡ Ok n
      → Over n 8 (use_rule w (use_at s w.at) (user_at s w) (word_at s (20 * user_at s w + 4))) (with_use w (use_at s w.at) (user_at s w))
  unfolding use_step
  use_over n l e =
      let q = past n (ltb (length s - w.at) 8) _ _ e in
      let room = ltb-false (length s - w.at) 8 q.0 in
      let r = passed n (use_rule w (use_at s w.at) (user_at s w) (word_at s (20 * user_at s w + 4))) w.at _ q.1 in
      record { room = omega arith; passes = r.0; same = r.1 }

-- ---- the induction

-- the walk at the end record of a table with the shape h
pub record Ended (s : List ℕ) (P : Walk → Type 0) (h : Shape) : Type 0 where
  pub walk : Walk
  pub kept : P walk
  pub shape : h ≡ record { tasks = walk.tasks; uses_at = 20 * walk.tasks; uses = walk.uses }
  pub some : 1 ≤ walk.tasks
  pub last : length s ≡ walk.at + 1
  pub kind : get_or s walk.at 0 ≡ 3

module _ (s : List ℕ) (P : Walk → Type 0)
    (on-task : (w : Walk) → P w → get_or s w.at 0 ≡ 1 → w.at + 20 ≤ length s → task_rule w (task_at s w.at) ≡ stands → P (with_task w (task_at s w.at)))
    (on-use : (w : Walk) → P w → get_or s w.at 0 ≡ 2 → w.at + 8 ≤ length s
    → use_rule w (use_at s w.at) (user_at s w) (word_at s (20 * user_at s w + 4)) ≡ stands → P (with_use w (use_at s w.at) (user_at s w))) where
  module _ (w : Walk) (p : P w) where
    pub step_kept : (n : Walk) → step_at s w ≡ Ok (On n) → P n
    unfolding step_at
    step_kept n e =
        let q = past (On n) (leb (length s) w.at) _ _ e in
        let l = leb-false (length s) w.at q.0 in
        ⊎_elim
        (λ t. let o = task_over s w n l t.1 in subst P o.same (on-task w p t.0 o.room o.passes))
        (λ u. let o = use_over s w n l u.1 in subst P o.same (on-use w p u.0 o.room o.passes))
        (went_on s w n (kind_of (get_or s w.at 0)) refl q.1)

    at_end : (h : Shape) → w.at < length s → get_or s w.at 0 ≡ 3 → end_step s w ≡ Ok h → Ended s P h
    unfolding end_step
    at_end h l k e =
        let some = past h (eqb w.tasks 0) _ _ e in
        let none = eqb-false w.tasks 0 some.0 in
        let q = past h (ltb 1 (length s - w.at)) _ _ some.1 in
        let short = ltb-false 1 (length s - w.at) q.0 in
        let same = q.1 in
        record { walk = w; kept = p; shape = cc; some = omega arith; last = omega arith; kind = k }

    last_kept : (h : Shape) → step_at s w ≡ Ok (Done h) → Ended s P h
    unfolding step_at
    last_kept h e =
        let q = past (Done h) (leb (length s) w.at) _ _ e in
        let z = was_done s w h (kind_of (get_or s w.at 0)) refl q.1 in
        at_end h (leb-false (length s) w.at q.0) z.0 z.1

  walked : (k : ℕ) (w : Walk) → P w → (h : Shape) → read_from k s w ≡ Ok h → Ended s P h
  unfolding read_from
  walked zero w p h e = absurd (impossible cc)
  walked (suc k) w p h e = go (λ n q. walked k n q h) (step_at s w) refl e
    where
      go : ((n : Walk) → P n → read_from k s n ≡ Ok h → Ended s P h) → (r : Result Step Refusal) → step_at s w ≡ r → onward r (read_from k s) ≡ Ok h
          → Ended s P h
      go f (Ok (On n)) q e = f n (step_kept w p n q) e
      go f (Ok (Done a)) q e = last_kept w p h (q ∙ ap (λ (x : Shape). Ok (Done x)) cc)
      go f (Err r) q e = absurd (impossible cc)

  -- of an accepted table
  pub accepted : P start_walk → (h : Shape) → read_table s ≡ Ok h → Ended s P h
  accepted p h e = walked (length s + 1) start_walk p h e

-- ---- a step that goes on is past its record

pub step_on : (s : List ℕ) (w n : Walk) → step_at s w ≡ Ok (On n) → w.at < n.at
unfolding step_at
step_on s w n e =
    let q = past (On n) (leb (length s) w.at) _ _ e in
    let l = leb-false (length s) w.at q.0 in
    ⊎_elim
    (λ t. let o = task_over s w n l t.1 in subst (λ (u : Walk). w.at < u.at) o.same (omega arith))
    (λ u. let o = use_over s w n l u.1 in subst (λ (u : Walk). w.at < u.at) o.same (omega arith))
    (went_on s w n (kind_of (get_or s w.at 0)) refl q.1)
