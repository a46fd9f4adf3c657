-- What a rule that passes has tested, as facts about the record.
use Prim.Native.Nat.{ℕ, ◌≤◌, ◌<◌}
use mathlib.Core.Path.{◌≡◌, refl}
use mathlib.Core.Logic.{◌⊎◌, inl, inr, ⊎_elim}
use mathlib.Core.Bool.{Bool, true, false, cond, ◌&&◌, ◌||◌}
use lib.Dec.{ltb, leb, eqb}
use native.Mathlib.Omega.{arith}
use borrow.Author.Tests.{ltb-true, ltb-false, leb-true, leb-false, eqb-false}
use Rattle.searches.proofs.Testing.{impossible, and_true}
use Rattle.std.specs.Prelude.{Err}
use Rattle.table.specs.declared.Why.TheVariants.{Order, TooMany, Range, Sections}
use Rattle.table.specs.declared.Task.{Task}
use Rattle.table.specs.declared.Use.{Use}
use Rattle.table.specs.declared.walk.Walk.{Walk}
use Rattle.table.specs.Ranges.{task_fits, use_fits}
use Rattle.table.specs.Rules.{task_rule, sum_after, use_rule, stands}
use Rattle.table.specs.WellFormed.{TaskInRange, UseInRange}

-- neither test passed
pub neither : (p q : Bool) → p || q ≡ false → (p ≡ false) × (q ≡ false)
neither true q e = absurd (impossible cc)
neither false q e = (refl, e)

-- one of them passed
pub either : (p q : Bool) → p || q ≡ true → (p ≡ true) ⊎ (q ≡ true)
either true q e = inl refl
either false q e = inr e

-- one of them failed
not_both : (p q : Bool) → p && q ≡ false → (p ≡ false) ⊎ (q ≡ false)
not_both true q e = inr e
not_both false q e = inl refl

-- a rule that passes has not refused
task_told : (p q r : Bool) → cond p (Err TooMany) (cond q (Err Order) (cond r stands (Err Range))) ≡ stands → (p ≡ false) × (q ≡ false) × (r ≡ true)
task_told true q r e = absurd (impossible cc)
task_told false true r e = absurd (impossible cc)
task_told false false true e = (refl, refl, refl)
task_told false false false e = absurd (impossible cc)

use_told : (p q r : Bool) → cond p (Err Order) (cond q (cond r (Err Sections) stands) (Err Range)) ≡ stands → (p ≡ false) × (q ≡ true) × (r ≡ false)
use_told true q r e = absurd (impossible cc)
use_told false false r e = absurd (impossible cc)
use_told false true true e = absurd (impossible cc)
use_told false true false e = (refl, refl, refl)

-- ---- ranges

pub task_in_range : (t : Task) → task_fits t ≡ true → TaskInRange t
task_in_range t e =
    let a = and_true _ (leb t.period 1000000) e in
    let b = and_true _ (leb t.deadline t.period) a.0 in
    let c = and_true _ (leb t.run t.deadline) b.0 in
    let d = and_true _ (leb 1 t.sleeps || leb t.sleep 0) c.0 in
    let f = and_true _ (leb t.sleep 1000000) d.0 in
    let g = and_true _ (leb 1 t.run) f.0 in
    let h = and_true (leb 1 t.priority && ltb t.setting t.priority) (leb t.sleeps 64) g.0 in
    let i = and_true (leb 1 t.priority) (ltb t.setting t.priority) h.0 in
    record {
      priority = leb-true 1 t.priority i.0;
      setting = ltb-true t.setting t.priority i.1;
      sleeps = leb-true t.sleeps 64 h.1;
      run = leb-true 1 t.run g.1;
      sleep = leb-true t.sleep 1000000 f.1;
      sleepless = λ z. ⊎_elim (λ x. let m = leb-true 1 t.sleeps x in omega arith) (λ x. let m = leb-true t.sleep 0 x in omega arith)
          (either (leb 1 t.sleeps) (leb t.sleep 0) d.1);
      run_within = leb-true t.run t.deadline c.1;
      deadline_within = leb-true t.deadline t.period b.1;
      period = leb-true t.period 1000000 a.1;
    }

pub use_in_range : (u : Use) → use_fits u ≡ true → UseInRange u
use_in_range u e =
    let a = and_true _ (leb u.length 1000000) e in
    let b = and_true _ (leb 1 u.length) a.0 in
    let c = and_true _ (leb 1 u.times) b.0 in
    let d = and_true (leb 1 u.resource) (leb u.resource 16) c.0 in
    record {
      resource = leb-true 1 u.resource d.0;
      resource_most = leb-true u.resource 16 d.1;
      times = leb-true 1 u.times c.1;
      length = leb-true 1 u.length b.1;
      length_most = leb-true u.length 1000000 a.1;
    }

-- ---- a record that may stand where it does

pub record TaskStands (w : Walk) (t : Task) : Type 0 where
  pub few : w.tasks < 32
  pub first : w.uses ≡ 0
  pub below : t.priority < w.last
  pub range : TaskInRange t

pub task_stands : (w : Walk) (t : Task) → task_rule w t ≡ stands → TaskStands w t
unfolding task_rule
task_stands w t e =
    let r = task_told (leb 32 w.tasks) (leb 1 w.uses || leb w.last t.priority) (task_fits t) e in
    let o = neither (leb 1 w.uses) (leb w.last t.priority) r.1 in
    let none = leb-false 1 w.uses o.0 in
    record {
      few = leb-false 32 w.tasks r.0;
      first = omega arith;
      below = leb-false w.last t.priority o.1;
      range = task_in_range t r.2;
    }

pub record UseStands (w : Walk) (u : Use) (i c : ℕ) : Type 0 where
  pub owned : i < w.tasks
  pub rises : i ≡ w.user → w.least ≤ u.resource
  pub range : UseInRange u
  pub sum : sum_after w u i ≤ c

pub use_stands : (w : Walk) (u : Use) (i c : ℕ) → use_rule w u i c ≡ stands → UseStands w u i c
unfolding use_rule
use_stands w u i c e =
    let again = eqb i w.user && ltb u.resource w.least in
    let r = use_told (leb w.tasks i || again) (use_fits u) (ltb c (sum_after w u i)) e in
    let o = neither (leb w.tasks i) again r.0 in
    record {
      owned = leb-false w.tasks i o.0;
      rises = λ z. ⊎_elim (λ x. absurd (eqb-false i w.user x z)) (ltb-false u.resource w.least)
          (not_both (eqb i w.user) (ltb u.resource w.least) o.1);
      range = use_in_range u r.1;
      sum = ltb-false c (sum_after w u i) r.2;
    }
