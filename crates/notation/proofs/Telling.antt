-- A rule that refuses a record, and the cause that is chosen for it: each cause is true of the record.
use Prim.Native.Nat.{ℕ, zero, suc, ◌+◌, ◌*◌, ◌-◌, ◌≤◌, ◌<◌}
use mathlib.Core.Path.{◌≡◌, refl, sym, ap, subst, ◌∙◌}
use mathlib.Core.Logic.{◌⊎◌, inl, inr, ⊎_elim}
use mathlib.Core.Bool.{Bool, true, false, cond, ◌&&◌, ◌||◌}
use mathlib.Core.List.{List}
use native.Mathlib.Omega.{arith}
use native.Mathlib.Decide.{ℕ_discrete, dec_le, dec_lt}
use borrow.Author.Tests.{eq-eqb, le-leb, lt-leb, lt-ltb, le-ltb, ltb-true, ltb-false, leb-true, leb-false, eqb-true, eqb-false}
use lib.Dec.{ltb, leb, eqb}
use lib.ListN.{get_or}
use Rattle.searches.specs.Indexed.{sum_to}
use Rattle.searches.proofs.Testing.{impossible, and_true, true_and}
use Rattle.std.specs.Prelude.{Err}
use Rattle.table.specs.declared.Why.{Why}
use Rattle.table.specs.Replies.{why_number}
use Rattle.table.specs.declared.walk.Walk.{Walk}
use Rattle.table.specs.Fields.{word_at, task_at, use_at}
use Rattle.table.specs.Ranges.{task_fits, use_fits}
use Rattle.table.specs.Rules.{task_rule, use_rule, sum_after, place_from}
use Rattle.table.specs.Reading.{user_at}
use Rattle.table.specs.WellFormed.{sections_by}
use Rattle.table.proofs.Laws.{place_within, place_has}
use Rattle.table.proofs.Accepted.{Seen, user_found, sum_own}
use Rattle.notation.specs.Reasons.{reason, range_reason, task_reason, use_reason, reason_at}
use Rattle.notation.specs.Truths.{owner_at, Told, setting_high, sleepless, run_high, deadline_high, one_too_many, after_use, not_below, of_no_task, out_of_order, past_run}
use Rattle.notation.proofs.Ruled.{task_refused, use_refused}
use Rattle.notation.proofs.Reached.{Marks}
use Rattle.notation.proofs.Wholes.{TaskWhole, UseWhole}

-- ---- a task

module _ (all : List ℕ) (at n : ℕ) (whole : TaskWhole all at) where
  -- a task out of range whose other fields are in order has a deadline above the period
  unfit : (task_at all at).setting < (task_at all at).priority → eqb (task_at all at).sleeps 0 && ltb 0 (task_at all at).sleep ≡ false
      → (task_at all at).run ≤ (task_at all at).deadline → task_fits (task_at all at) ≡ false → (task_at all at).period < (task_at all at).deadline
  unfit below sleeps run bad = go (dec_lt (task_at all at).period (task_at all at).deadline)
    where
      sleepless : Dec ((task_at all at).sleeps ≡ 0) → Dec (0 < (task_at all at).sleep) → eqb (task_at all at).sleeps 0 && ltb 0 (task_at all at).sleep ≡ false
          → leb 1 (task_at all at).sleeps || leb (task_at all at).sleep 0 ≡ true
      sleepless (yes z) (yes l) e =
          let f : eqb (task_at all at).sleeps 0 && ltb 0 (task_at all at).sleep ≡ true = true_and (eq-eqb (task_at all at).sleeps 0 z) (lt-ltb 0 (task_at all at).sleep l) in
          absurd (impossible cc)
      sleepless (yes z) (no l) e = rw (lt-leb 1 (task_at all at).sleeps (omega arith), le-leb (task_at all at).sleep 0 (omega arith))
      sleepless (no z) l e = rw (le-leb 1 (task_at all at).sleeps (omega arith))

      go : Dec ((task_at all at).period < (task_at all at).deadline) → (task_at all at).period < (task_at all at).deadline
      go (yes h) = h
      go (no h) =
          let fits : task_fits (task_at all at) ≡ true = rw (
            le-leb 1 (task_at all at).priority whole.priority,
            lt-ltb (task_at all at).setting (task_at all at).priority below,
            le-leb (task_at all at).sleeps 64 whole.sleeps,
            le-leb 1 (task_at all at).run whole.run,
            le-leb (task_at all at).sleep 1000000 whole.sleep,
            sleepless (ℕ_discrete (task_at all at).sleeps 0) (dec_lt 0 (task_at all at).sleep) sleeps,
            le-leb (task_at all at).run (task_at all at).deadline run,
            le-leb (task_at all at).deadline (task_at all at).period (omega arith),
            le-leb (task_at all at).period 1000000 whole.period,
          ) in
          absurd (impossible cc)

  -- out of range: the first test that fails tells why
  range_true : task_fits (task_at all at) ≡ false → Told all at n (range_reason (task_at all at))
  unfolding range_reason
  range_true bad =
      let t = task_at all at in
      pick (leb t.priority t.setting) (eqb t.sleeps 0 && ltb 0 t.sleep) (ltb t.deadline t.run) refl refl refl
    where
      pick : (p q r : Bool) → leb (task_at all at).priority (task_at all at).setting ≡ p → eqb (task_at all at).sleeps 0 && ltb 0 (task_at all at).sleep ≡ q
          → ltb (task_at all at).deadline (task_at all at).run ≡ r
          → Told all at n (cond p (reason 7 (task_at all at).setting (task_at all at).priority)
          (cond q (reason 8 (task_at all at).sleep 0)
          (cond r (reason 9 (task_at all at).run (task_at all at).deadline) (reason 10 (task_at all at).deadline (task_at all at).period))))
      pick true q r x y z = setting_high whole.kind (leb-true (task_at all at).priority (task_at all at).setting x)
      pick false true r x y z =
          let b = and_true (eqb (task_at all at).sleeps 0) (ltb 0 (task_at all at).sleep) y in
          sleepless whole.kind (eqb-true (task_at all at).sleeps 0 b.0) (ltb-true 0 (task_at all at).sleep b.1)
      pick false false true x y z = run_high whole.kind (ltb-true (task_at all at).deadline (task_at all at).run z)
      pick false false false x y z =
          deadline_high whole.kind (unfit (leb-false (task_at all at).priority (task_at all at).setting x) y (ltb-false (task_at all at).deadline (task_at all at).run z) bad)

-- the walk before a record
module _ (all : List ℕ) (w : Walk) (g : Seen all w) (m : Marks all w) where
  -- a task that comes after a use, or does not fall below the last
  order_true : TaskWhole all w.at → (1 ≤ w.uses) ⊎ (w.last ≤ (task_at all w.at).priority) → Told all w.at w.tasks (task_reason all w.at w.tasks 3)
  unfolding task_reason
  order_true whole why = go (dec_lt (20 * w.tasks) w.at) (dec_lt 0 w.tasks) why
    where
      go : Dec (20 * w.tasks < w.at) → Dec (0 < w.tasks) → (1 ≤ w.uses) ⊎ (w.last ≤ (task_at all w.at).priority)
          → Told all w.at w.tasks (cond (ltb (20 * w.tasks) w.at) (reason 12 (get_or all (w.at + 1) 0) (get_or all (w.at - 7) 0))
          (reason 13 (get_or all (w.at + 1) 0) (get_or all (w.at - 19) 0)))
      go (yes l) n o =
          let before : 20 * w.tasks + 8 * (w.uses - 1) ≡ w.at - 8 = omega (arith, g.place) in
          let shown : w.at - 8 + 1 ≡ w.at - 7 = omega (arith, g.place) in
          let kind = ap (λ (a : ℕ). get_or all a 0) (sym before) ∙ g.use_kind (w.uses - 1) (omega (arith, g.place)) in
          rw (lt-ltb (20 * w.tasks) w.at l)
          (subst (λ (a : ℕ). Told all w.at w.tasks (reason 12 (get_or all (w.at + 1) 0) (get_or all a 0))) shown (after_use whole.kind l kind))
      go (no l) n (inl u) = absurd (omega (arith, g.place))
      go (no l) (no z) (inr o) = absurd (omega (arith, m.none (omega arith), whole.priority_most))
      go (no l) (yes n) (inr o) =
          let shown : 20 * (w.tasks - 1) + 1 ≡ w.at - 19 = omega (arith, g.place) in
          rw (le-ltb (20 * w.tasks) w.at (omega arith))
          (subst (λ (a : ℕ). Told all w.at w.tasks (reason 13 (get_or all (w.at + 1) 0) (get_or all a 0))) shown
          (not_below whole.kind n (omega (arith, g.place)) (omega (arith, m.last n))))

  -- a task that its rule refuses
  pub task_true : TaskWhole all w.at → (y : Why) → task_rule w (task_at all w.at) ≡ Err y
      → Told all w.at w.tasks (reason_at all w.at w.tasks (why_number y))
  unfolding task_reason
  task_true whole y e =
      rw whole.kind
      (⊎_elim (λ q. subst told (sym q.0) (one_too_many whole.kind (omega (arith, q.1, g.tasks_most))))
      (⊎_elim (λ q. subst told (sym q.0) (order_true whole q.1))
      (λ q. subst told (sym q.0) (range_true all w.at w.tasks whole q.1))) (task_refused w (task_at all w.at) y e))
    where
      told : Why → Type 0
      told x = Told all w.at w.tasks (task_reason all w.at w.tasks (why_number x))

-- ---- a use

-- a place that has the priority is not before the one that is found
place_before : (k : ℕ) (s : List ℕ) (i p m : ℕ) → i ≤ m → m < i + k → get_or s (20 * m + 1) 0 ≡ p → place_from k s i p ≤ m
unfolding place_from
place_before zero s i p m a b e = absurd (omega arith)
place_before (suc k) s i p m a b e = go (ℕ_discrete i m) (λ l r. place_before k s (i + 1) p m l r e) (eqb (get_or s (20 * i + 1) 0) p) refl
  where
    go : Dec (i ≡ m) → (i + 1 ≤ m → m < i + 1 + k → place_from k s (i + 1) p ≤ m) → (b : Bool) → eqb (get_or s (20 * i + 1) 0) p ≡ b
        → cond b i (place_from k s (i + 1) p) ≤ m
    go d more true q = a
    go (yes h) more false q = absurd (eqb-false (get_or s (20 * i + 1) 0) p q (ap (λ (x : ℕ). get_or s (20 * x + 1) 0) h ∙ e))
    go (no h) more false q = more (omega arith) (omega arith)

-- a use in range fits
use_fits_lem : (all : List ℕ) (at : ℕ) → UseWhole all at → use_fits (use_at all at) ≡ true
use_fits_lem all at whole =
    rw (
      le-leb 1 (use_at all at).resource whole.resource,
      le-leb (use_at all at).resource 16 whole.resource_most,
      le-leb 1 (use_at all at).times whole.times,
      le-leb 1 (use_at all at).length whole.length,
      le-leb (use_at all at).length 1000000 whole.length_most,
    )

-- the walk before a use
module _ (all : List ℕ) (w : Walk) (g : Seen all w) (m : Marks all w) (kind : get_or all w.at 0 ≡ 2) where
  -- the use before it, where there is one: its kind, its task and its resource
  before : 0 < w.uses → (get_or all (w.at - 8) 0 ≡ 2) × (owner_at all w.tasks (w.at - 8) ≡ w.user) × ((use_at all (w.at - 8)).resource + 1 ≡ w.least)
  before some =
      let there : w.at - 8 ≡ 20 * w.tasks + 8 * (w.uses - 1) = omega (arith, g.place) in (
        ap (λ (a : ℕ). get_or all a 0) there ∙ g.use_kind (w.uses - 1) (omega arith),
        ap (owner_at all w.tasks) there ∙ m.user some,
        ap (λ (a : ℕ). (use_at all a).resource + 1) there ∙ m.least some,
      )

  -- what order asks is not met, with a task that has the priority
  disorder : owner_at all w.tasks w.at < w.tasks → (w.tasks ≤ user_at all w) ⊎ ((user_at all w ≡ w.user) × ((use_at all w.at).resource < w.least))
      → Told all w.at w.tasks (reason 15 (use_at all w.at).resource (use_at all w.at).priority)
  disorder lt why = go (dec_lt 0 w.uses) why
    where
      early : w.tasks ≤ user_at all w → Dec (w.user ≤ owner_at all w.tasks w.at) → owner_at all w.tasks w.at < w.user
      early l (yes h) =
          let has = place_has w.tasks all 0 (use_at all w.at).priority (omega arith) in
          let q = place_before (w.tasks - w.user) all w.user (use_at all w.at).priority (owner_at all w.tasks w.at) h (omega arith) has in
          absurd (omega arith)
      early l (no h) = omega arith

      go : Dec (0 < w.uses) → (w.tasks ≤ user_at all w) ⊎ ((user_at all w ≡ w.user) × ((use_at all w.at).resource < w.least))
          → Told all w.at w.tasks (reason 15 (use_at all w.at).resource (use_at all w.at).priority)
      go (no z) (inl l) = absurd (omega (arith, early l (dec_le w.user (owner_at all w.tasks w.at)), (m.unused (omega arith)).0))
      go (no z) (inr l) = absurd (omega (arith, l.1, (m.unused (omega arith)).1))
      go (yes some) (inl l) =
          let b = before some in
          out_of_order kind lt (omega (arith, g.place)) b.0 (inl (omega (arith, early l (dec_le w.user (owner_at all w.tasks w.at)), b.1)))
      go (yes some) (inr l) =
          let b = before some in
          let owned : w.user < w.tasks = omega (arith, m.user some, g.owned (w.uses - 1) (omega arith)) in
          let found = user_found all w g (omega (arith, l.0)) in
          out_of_order kind lt (omega (arith, g.place)) b.0 (inr (omega (arith, found, l.0, b.1), omega (arith, l.1, b.2)))

  -- a use that no task is left for, or whose resource does not rise
  use_order : (w.tasks ≤ user_at all w) ⊎ ((user_at all w ≡ w.user) × ((use_at all w.at).resource < w.least))
      → Told all w.at w.tasks (use_reason all w.at w.tasks 3)
  unfolding use_reason
  use_order why = go (dec_le w.tasks (owner_at all w.tasks w.at))
    where
      go : Dec (w.tasks ≤ owner_at all w.tasks w.at)
          → Told all w.at w.tasks (cond (leb w.tasks (owner_at all w.tasks w.at))
          (reason 14 (use_at all w.at).priority (use_at all w.at).priority) (reason 15 (use_at all w.at).resource (use_at all w.at).priority))
      go (yes h) =
          rw (le-leb w.tasks (owner_at all w.tasks w.at) h)
          (of_no_task kind (λ i l e. omega (arith, place_before w.tasks all 0 (use_at all w.at).priority i (omega arith) (omega arith) e)))
      go (no h) = rw (lt-leb w.tasks (owner_at all w.tasks w.at) (omega arith)) (disorder (omega arith) why)

  -- a use that takes its task past its run time
  use_long : user_at all w < w.tasks → word_at all (20 * user_at all w + 4) < sum_after w (use_at all w.at) (user_at all w)
      → Told all w.at w.tasks (use_reason all w.at w.tasks 6)
  unfolding use_reason
  use_long lt long =
      let on = (place_within (w.tasks - w.user) all w.user (use_at all w.at).priority).0 in
      let found = user_found all w g lt in
      let sum : word_at all (20 * user_at all w + 4) < sum_to (sections_by all w.tasks (20 * w.tasks) (user_at all w)) (w.uses + 1) =
      omega (arith, sum_own all w g lt on) in
      past_run kind w.uses g.place (omega arith)
      (subst (λ (i : ℕ). word_at all (20 * i + 4) < sum_to (sections_by all w.tasks (20 * w.tasks) i) (w.uses + 1)) (sym found) sum)

  -- a use that its rule refuses
  pub use_true : UseWhole all w.at → (y : Why) → use_rule w (use_at all w.at) (user_at all w) (word_at all (20 * user_at all w + 4)) ≡ Err y
      → Told all w.at w.tasks (reason_at all w.at w.tasks (why_number y))
  use_true whole y e =
      rw whole.kind
      (⊎_elim (λ q. subst told (sym q.0) (use_order q.1))
      (⊎_elim (λ q. let f = use_fits_lem all w.at whole in let b = q.1 in absurd (impossible cc))
      (λ q. subst told (sym q.0) (use_long q.1 q.2))) (use_refused w (use_at all w.at) (user_at all w) (word_at all (20 * user_at all w + 4)) y e))
    where
      told : Why → Type 0
      told x = Told all w.at w.tasks (use_reason all w.at w.tasks (why_number x))
