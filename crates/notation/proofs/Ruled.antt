-- What a rule that refuses a record has tested, by why it refuses.
use Prim.Native.Nat.{ℕ, ◌≤◌, ◌<◌}
use mathlib.Core.Path.{◌≡◌, refl}
use mathlib.Core.Logic.{◌⊎◌, inl, inr, ⊎_elim}
use mathlib.Core.Bool.{Bool, true, false, cond, ◌&&◌, ◌||◌}
use lib.Dec.{ltb, leb, eqb}
use borrow.Author.Tests.{ltb-true, leb-true, leb-false, eqb-true}
use Rattle.std.specs.Prelude.{Err}
use Rattle.searches.proofs.Testing.{impossible, and_true}
use Rattle.table.proofs.Told.{neither, either}
use Rattle.table.specs.declared.Why.{Why}
use Rattle.table.specs.declared.Why.TheVariants.{Order, TooMany, Range, Sections}
use Rattle.table.specs.declared.Task.{Task}
use Rattle.table.specs.declared.Use.{Use}
use Rattle.table.specs.declared.walk.Walk.{Walk}
use Rattle.table.specs.Ranges.{task_fits, use_fits}
use Rattle.table.specs.Rules.{stands, task_rule, sum_after, use_rule}

-- a task's rule by its tests: why it refuses tells which of them decided
task_told : (p q r : Bool) (y : Why) → cond p (Err TooMany) (cond q (Err Order) (cond r stands (Err Range))) ≡ Err y
    → ((y ≡ TooMany) × (p ≡ true)) ⊎ (((y ≡ Order) × (q ≡ true)) ⊎ ((y ≡ Range) × (r ≡ false)))
task_told true q r y e = inl (cc, refl)
task_told false true r y e = inr (inl (cc, refl))
task_told false false true y e = absurd (impossible cc)
task_told false false false y e = inr (inr (cc, refl))

-- and a use's
use_told : (p q r : Bool) (y : Why) → cond p (Err Order) (cond q (cond r (Err Sections) stands) (Err Range)) ≡ Err y
    → ((y ≡ Order) × (p ≡ true)) ⊎ (((y ≡ Range) × (q ≡ false)) ⊎ ((y ≡ Sections) × (p ≡ false) × (r ≡ true)))
use_told true q r y e = inl (cc, refl)
use_told false false r y e = inr (inl (cc, refl))
use_told false true true y e = inr (inr (cc, refl, refl))
use_told false true false y e = absurd (impossible cc)

-- a task that is refused is the 33rd, comes after a use or does not fall below the last, or is out of range
pub task_refused : (w : Walk) (t : Task) (y : Why) → task_rule w t ≡ Err y
    → ((y ≡ TooMany) × (32 ≤ w.tasks))
    ⊎ (((y ≡ Order) × ((1 ≤ w.uses) ⊎ (w.last ≤ t.priority))) ⊎ ((y ≡ Range) × (task_fits t ≡ false)))
unfolding task_rule
task_refused w t y e =
    ⊎_elim (λ q. inl (q.0, leb-true 32 w.tasks q.1))
    (⊎_elim (λ q. inr (inl (
      q.0,
      ⊎_elim (λ z. inl (leb-true 1 w.uses z)) (λ z. inr (leb-true w.last t.priority z))
          (either (leb 1 w.uses) (leb w.last t.priority) q.1),
    ))) (λ q. inr (inr q)))
    (task_told (leb 32 w.tasks) (leb 1 w.uses || leb w.last t.priority) (task_fits t) y e)

-- a use that is refused is of no task that is left or has a resource that does not rise, is out of range, or takes its task past its run time
pub use_refused : (w : Walk) (u : Use) (i c : ℕ) (y : Why) → use_rule w u i c ≡ Err y
    → ((y ≡ Order) × ((w.tasks ≤ i) ⊎ ((i ≡ w.user) × (u.resource < w.least))))
    ⊎ (((y ≡ Range) × (use_fits u ≡ false)) ⊎ ((y ≡ Sections) × (i < w.tasks) × (c < sum_after w u i)))
unfolding use_rule
use_refused w u i c y e =
    let again = eqb i w.user && ltb u.resource w.least in
    ⊎_elim (λ q. inl (
      q.0,
      ⊎_elim (λ z. inl (leb-true w.tasks i z))
          (λ z. let r = and_true (eqb i w.user) (ltb u.resource w.least) z in
          inr (eqb-true i w.user r.0, ltb-true u.resource w.least r.1))
          (either (leb w.tasks i) again q.1),
    ))
    (⊎_elim (λ q. inr (inl q))
    (λ q. inr (inr (q.0, leb-false w.tasks i (neither (leb w.tasks i) again q.1).0, ltb-true c (sum_after w u i) q.2))))
    (use_told (leb w.tasks i || again) (use_fits u) (ltb c (sum_after w u i)) y e)
