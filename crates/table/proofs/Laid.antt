-- Bytes in which whole records stand one after the other, as a writer lays them, whatever their fields are: what they are read as.
use Prim.Native.Nat.{ℕ, zero, suc, ◌+◌, ◌*◌, ◌-◌, ◌≤◌, ◌<◌}
use mathlib.Core.Path.{◌≡◌, refl, sym, ap, subst, ◌∙◌}
use mathlib.Core.Logic.{◌⊎◌, inl, inr, ⊎_elim}
use mathlib.Core.Bool.{Bool, true, false, cond, ◌&&◌, ◌||◌}
use mathlib.Core.List.{List}
use lib.Dec.{leb, ltb, eqb}
use lib.ListN.{get_or, length}
use native.Mathlib.Omega.{arith}
use native.Mathlib.Decide.{ℕ_discrete, dec_lt}
use borrow.Author.Tests.{le-leb, lt-leb, eq-eqb, leb-true, leb-false}
use Rattle.searches.proofs.Testing.{impossible}
use Rattle.std.specs.Prelude.{Result, Ok, Err}
use Rattle.table.specs.declared.Shape.{Shape}
use Rattle.table.specs.declared.Refusal.{Refusal}
use Rattle.table.specs.declared.Task.{Task}
use Rattle.table.specs.declared.Use.{Use}
use Rattle.table.specs.declared.Why.{Why}
use Rattle.table.specs.declared.Why.TheVariants.{Order, TooMany, Range, Sections}
use Rattle.table.specs.declared.walk.Walk.{Walk}
use Rattle.table.specs.declared.walk.Step.{Step}
use Rattle.table.specs.declared.walk.Step.TheVariants.{On, Done}
use Rattle.table.specs.Fields.{task_at, use_at, word_at}
use Rattle.table.specs.Ranges.{task_fits, use_fits}
use Rattle.table.specs.Replies.{why_number}
use Rattle.table.specs.Rules.{task_rule, use_rule, sum_after, with_task, with_use, Ruling, stands}
use Rattle.table.specs.Reading.{Reading, start_walk, refusal, ruled, going, end_step, step_at, user_at, onward, read_from, read_table}
use Rattle.table.proofs.Laws.{place_within, place_has}
use Rattle.table.proofs.Walked.{task_turn, use_turn_lem}
use Rattle.table.proofs.Accepted.{Seen, seen_start, seen_task, seen_use, well_formed}
use Rattle.table.proofs.Complete.{end_step_lem}

-- n task records, then m use records, then one end record, each whole
pub record Laid (s : List ℕ) (n m : ℕ) : Type 0 where
  pub whole : length s ≡ 20 * n + 8 * m + 1
  pub task_kind : (i : ℕ) → i < n → get_or s (20 * i) 0 ≡ 1
  pub use_kind : (j : ℕ) → j < m → get_or s (20 * n + 8 * j) 0 ≡ 2
  pub end_kind : get_or s (20 * n + 8 * m) 0 ≡ 3

-- where such bytes can be at fault, and why: at one of the first 32 tasks by its order or range, at the 33rd task since it is one too many,
-- at one of the first 513 uses by its order, range or sections, and at the end record by its order where nothing stands before it
pub data Fault (n m : ℕ) (r : Refusal) : Type 0 where
  in_task : (i : ℕ) → i < n → i < 32 → r.place ≡ 20 * i → (r.why ≡ Order) ⊎ (r.why ≡ Range) → Fault n m r
  in_crowd : 32 < n → r.place ≡ 640 → r.why ≡ TooMany → Fault n m r
  in_use : (j : ℕ) → n ≤ 32 → j < m → j ≤ 512 → r.place ≡ 20 * n + 8 * j → (r.why ≡ Order) ⊎ ((r.why ≡ Range) ⊎ (r.why ≡ Sections)) → Fault n m r
  in_end : n ≡ 0 → m ≡ 0 → r.place ≡ 0 → r.why ≡ Order → Fault n m r

-- a reading is a refusal, of which P holds
pub record RefusedBy (x : Reading) (P : Refusal → Type 0) : Type 0 where
  pub refused : Refusal
  pub same : x ≡ Err refused
  pub holds : P refused

-- a refusal with less said of it
less_said : {x : Reading} {P Q : Refusal → Type 0} → ((r : Refusal) → P r → Q r) → RefusedBy x P → RefusedBy x Q
less_said f r = record { refused = r.refused; same = r.same; holds = f r.refused r.holds }

-- ---- what a rule that refuses says

-- y is why the task at place i is refused: from the 33rd on as one too many, else by its order or range
abbrev TaskFault : ℕ → Why → Type 0
TaskFault i y = ((32 ≤ i) × (y ≡ TooMany)) ⊎ ((i < 32) × ((y ≡ Order) ⊎ (y ≡ Range)))

-- y is why a use is refused
abbrev UseFault : Why → Type 0
UseFault y = (y ≡ Order) ⊎ ((y ≡ Range) ⊎ (y ≡ Sections))

-- a task is refused for one of these
task_fault_by : (w : Walk) (t : Task) (y : Why) → task_rule w t ≡ Err y → TaskFault w.tasks y
unfolding task_rule
task_fault_by w t y = go (leb 32 w.tasks) refl (leb 1 w.uses || leb w.last t.priority) (task_fits t)
  where
    go : (p : Bool) → leb 32 w.tasks ≡ p → (q r : Bool) → cond p (Err TooMany) (cond q (Err Order) (cond r stands (Err Range))) ≡ Err y
        → TaskFault w.tasks y
    go true e q r z = inl (leb-true 32 w.tasks e, cc)
    go false e true r z = inr (leb-false 32 w.tasks e, inl cc)
    go false e false true z = absurd (impossible cc)
    go false e false false z = inr (leb-false 32 w.tasks e, inr cc)

-- and so is a use
use_fault_by : (w : Walk) (u : Use) (i c : ℕ) (y : Why) → use_rule w u i c ≡ Err y → UseFault y
unfolding use_rule
use_fault_by w u i c y = go (leb w.tasks i || (eqb i w.user && ltb u.resource w.least)) (use_fits u) (ltb c (sum_after w u i))
  where
    go : (p q r : Bool) → cond p (Err Order) (cond q (cond r (Err Sections) stands) (Err Range)) ≡ Err y → UseFault y
    go true q r z = inl cc
    go false false r z = inr (inl cc)
    go false true true z = inr (inr cc)
    go false true false z = absurd (impossible cc)

-- of a use of priority 0: its order, since no task that the walk has seen has that priority
use_unowned : (s : List ℕ) (w : Walk) (c : ℕ) → Seen s w → (use_at s w.at).priority ≡ 0 → use_rule w (use_at s w.at) (user_at s w) c ≡ Err Order
unfolding use_rule
use_unowned s w c g e = rw (le-leb w.tasks (user_at s w) (none (dec_lt (user_at s w) w.tasks)))
  where
    -- the search ends past the tasks
    none : Dec (user_at s w < w.tasks) → w.tasks ≤ user_at s w
    none (yes l) =
        let k = w.tasks - w.user in
        let p = (use_at s w.at).priority in
        let in_reach : user_at s w < w.user + k = omega (arith, place_within k s w.user p) in
        absurd (omega (arith, place_has k s w.user p in_reach, (g.task_range (user_at s w) l).priority))
    none (no n) = omega arith

-- ---- the step at a whole record

module _ (s : List ℕ) (w : Walk) where
  -- at the end record, with no task before it
  end_refused : get_or s w.at 0 ≡ 3 → w.at < length s → w.tasks ≡ 0 → step_at s w ≡ refusal Order w.at
  unfolding step_at end_step
  end_refused k room none = rw (lt-leb (length s) w.at room, k, eq-eqb w.tasks 0 none)

-- ---- the walk over such bytes

-- the counts of n task records and m use records
abbrev counted : ℕ → ℕ → Shape
counted n m = record { tasks = n; uses_at = 20 * n; uses = m }

-- what is found at fault: nothing past a 513th use, and a use of priority 0 by its order
record Found (s : List ℕ) (n m : ℕ) (r : Refusal) : Type 0 where
  fault : Fault n m r
  most : r.place ≤ 20 * n + 4096
  unowned : (j : ℕ) → j < m → r.place ≡ 20 * n + 8 * j → (use_at s (20 * n + 8 * j)).priority ≡ 0 → r.why ≡ Order

-- a reading with these counts, or one that is refused at the start of one of the records
abbrev Read : List ℕ → ℕ → ℕ → Reading → Type 0
Read s n m x = (x ≡ Ok (counted n m)) ⊎ RefusedBy x (Found s n m)

-- the walk stands before one of the records
record Before (s : List ℕ) (n m : ℕ) (w : Walk) : Type 0 where
  seen : Seen s w
  tasks_left : w.tasks ≤ n
  uses_left : w.uses ≤ m
  tasks_first : w.tasks < n → w.uses ≡ 0

-- a step leaves such a walk, further on, or ends in such a reading
abbrev Turned : List ℕ → ℕ → ℕ → Walk → Result Step Refusal → Type 0
Turned s n m w (Ok (On v)) = Before s n m v × (w.at < v.at)
Turned s n m w (Ok (Done h)) = Read s n m (Ok h)
Turned s n m w (Err r) = Read s n m (Err r)

-- a step by a rule: on where it passes, else refused at the walk's place
by_rule : (s : List ℕ) (n m : ℕ) (w v : Walk) (k : Ruling) → w.at < v.at → (k ≡ stands → Before s n m v)
    → ((y : Why) → k ≡ Err y → Found s n m (record { why = y; place = w.at })) → Turned s n m w (going (ruled k w.at v))
by_rule s n m w v (Ok _) further passes fails = (passes refl, further)
by_rule s n m w v (Err y) further passes fails = inr (record { refused = record { why = y; place = w.at }; same = refl; holds = fails y refl })

module _ (s : List ℕ) (n m : ℕ) (f : Laid s n m) (w : Walk) (g : Before s n m w) where
  -- the fault of the task that is next, by what its rule says
  task_fault : (y : Why) → w.tasks < n → w.at ≡ 20 * w.tasks → TaskFault w.tasks y → Fault n m (record { why = y; place = w.at })
  task_fault y l here (inl q) = in_crowd (omega arith) (omega (arith, g.seen.tasks_most)) q.1
  task_fault y l here (inr q) = in_task w.tasks l q.0 here q.1

  -- the step at a task
  at_task : w.tasks < n → Turned s n m w (step_at s w)
  at_task l =
      let t = task_at s w.at in
      let none = g.tasks_first l in
      let here : w.at ≡ 20 * w.tasks = omega (arith, g.seen.place) in
      let kind : get_or s w.at 0 ≡ 1 = ap (λ (a : ℕ). get_or s a 0) here ∙ f.task_kind w.tasks l in
      let room : w.at + 20 ≤ length s = omega (arith, f.whole) in
      subst (Turned s n m w) (sym (task_turn s w kind room)) (by_rule s n m w (with_task w t) (task_rule w t) (omega arith)
      (λ e. record { seen = seen_task s w g.seen kind room e; tasks_left = omega arith; uses_left = g.uses_left; tasks_first = λ b. none })
      (λ y z. record { fault = task_fault y l here (task_fault_by w t y z); most = omega arith; unowned = λ j b p e. absurd (omega arith) }))

  -- the step at a use
  at_use : w.tasks ≡ n → w.uses < m → Turned s n m w (step_at s w)
  at_use past l =
      let u = use_at s w.at in
      let i = user_at s w in
      let c = word_at s (20 * i + 4) in
      let here : w.at ≡ 20 * n + 8 * w.uses = omega (arith, g.seen.place) in
      let kind : get_or s w.at 0 ≡ 2 = ap (λ (a : ℕ). get_or s a 0) here ∙ f.use_kind w.uses l in
      let room : w.at + 8 ≤ length s = omega (arith, f.whole) in
      let few : w.uses ≤ 512 = omega (arith, g.seen.uses_most, g.seen.user_most, g.seen.least_most) in
      subst (Turned s n m w) (sym (use_turn_lem s w kind room)) (by_rule s n m w (with_use w u i) (use_rule w u i c) (omega arith)
      (λ e. record { seen = seen_use s w g.seen kind room e; tasks_left = g.tasks_left; uses_left = omega arith; tasks_first = λ b. absurd (omega arith) })
      (λ y z. record {
        fault = in_use w.uses (omega (arith, g.seen.tasks_most)) l few here (use_fault_by w u i c y z);
        most = omega arith;
        unowned = λ j b p e. let q = use_unowned s w c g.seen (ap (λ (a : ℕ). (use_at s a).priority) p ∙ e) in cc;
      }))

  -- the step at the end record
  at_end : w.tasks ≡ n → w.uses ≡ m → Turned s n m w (step_at s w)
  at_end past last = go (ℕ_discrete n 0) (dec_lt 0 m)
    where
      here : w.at ≡ 20 * n + 8 * m
      here = omega (arith, past, last, g.seen.place)

      kind : get_or s w.at 0 ≡ 3
      kind = ap (λ (a : ℕ). get_or s a 0) here ∙ f.end_kind

      -- with no task no use is passed, so that nothing stands before the end record
      go : Dec (n ≡ 0) → Dec (0 < m) → Turned s n m w (step_at s w)
      go (yes z) (yes l) = absurd (omega (arith, g.seen.owned 0 (omega arith)))
      go (yes z) (no y) =
          subst (Turned s n m w) (sym (end_refused s w kind (omega (arith, here, f.whole)) (omega arith)))
          (inr (record {
            refused = record { why = Order; place = w.at };
            same = refl;
            holds = record { fault = in_end z (omega arith) (omega (arith, here)) refl; most = omega (arith, here); unowned = λ j b p e. refl };
          }))
      go (no z) y = subst (Turned s n m w) (sym (end_step_lem s w kind (omega (arith, here, f.whole)) (omega arith))) (inl (cc))

-- from each walk that stands before one of the records, the rest is read
read_on : (s : List ℕ) (n m : ℕ) → Laid s n m → (k : ℕ) (w : Walk) → Before s n m w → length s < w.at + k → Read s n m (read_from k s w)
unfolding read_from
read_on s n m f zero w g enough = absurd (omega (arith, g.tasks_left, g.uses_left, g.seen.place, f.whole))
read_on s n m f (suc k) w g enough = goes_on (step_at s w) (turned (dec_lt w.tasks n) (dec_lt w.uses m)) (read_on s n m f k)
  where
    -- a task is next, or a use, or the end record
    turned : Dec (w.tasks < n) → Dec (w.uses < m) → Turned s n m w (step_at s w)
    turned (yes l) b = at_task s n m f w g l
    turned (no d) (yes l) = at_use s n m f w g (omega (arith, g.tasks_left)) l
    turned (no d) (no c) = at_end s n m f w g (omega (arith, g.tasks_left)) (omega (arith, g.uses_left))

    -- one record taken, and the rest read from there
    goes_on : (t : Result Step Refusal) → Turned s n m w t → ((v : Walk) → Before s n m v → length s < v.at + k → Read s n m (read_from k s v))
        → Read s n m (onward t (read_from k s))
    goes_on (Ok (On v)) q more = more v q.0 (omega arith)
    goes_on (Ok (Done h)) q more = q
    goes_on (Err r) q more = q

-- ---- the whole bytes

-- read from the first record on
read_whole : (s : List ℕ) (n m : ℕ) → Laid s n m → Read s n m (read_table s)
read_whole s n m f =
    read_on s n m f (length s + 1) start_walk
    (record { seen = seen_start s; tasks_left = omega arith; uses_left = omega arith; tasks_first = λ l. refl }) (omega arith)

-- bytes that can't be accepted with these counts are refused
found : (s : List ℕ) (n m : ℕ) → Laid s n m → (read_table s ≡ Ok (counted n m) → ⊥) → RefusedBy (read_table s) (Found s n m)
found s n m f z = ⊎_elim (λ e. absurd (z e)) (λ r. r) (read_whole s n m f)

-- read: accepted with exactly these counts, or refused at the start of one of the records with 3 to 6
pub reads : (s : List ℕ) (n m : ℕ) → Laid s n m
    → (read_table s ≡ Ok (record { tasks = n; uses_at = 20 * n; uses = m })) ⊎ RefusedBy (read_table s) (Fault n m)
reads s n m f = ⊎_elim inl (λ d. inr (less_said (λ r x. x.fault) d)) (read_whole s n m f)

-- accepted: with exactly these counts
pub counts : (s : List ℕ) (n m : ℕ) (h : Shape) → Laid s n m → read_table s ≡ Ok h → h ≡ record { tasks = n; uses_at = 20 * n; uses = m }
counts s n m h f e = ⊎_elim (λ a. cc) (λ d. let z = d.same in absurd (impossible cc)) (read_whole s n m f)

-- refused: with 3 to 6
pub numbers : (s : List ℕ) (n m : ℕ) (r : Refusal) → Laid s n m → read_table s ≡ Err r → (3 ≤ why_number r.why) × (why_number r.why ≤ 6)
numbers s n m r f e = let d = found s n m f (λ a. absurd (impossible cc)) in within (subst (Fault n m) (let z = d.same in cc) d.holds.fault)
  where
    -- whatever the fault is
    within : Fault n m r → (3 ≤ why_number r.why) × (why_number r.why ≤ 6)
    within (in_task i a b p (inl k)) = let z = ap why_number k in (omega arith, omega arith)
    within (in_task i a b p (inr k)) = let z = ap why_number k in (omega arith, omega arith)
    within (in_crowd a p k) = let z = ap why_number k in (omega arith, omega arith)
    within (in_use j a b c p (inl k)) = let z = ap why_number k in (omega arith, omega arith)
    within (in_use j a b c p (inr (inl k))) = let z = ap why_number k in (omega arith, omega arith)
    within (in_use j a b c p (inr (inr k))) = let z = ap why_number k in (omega arith, omega arith)
    within (in_end a b p k) = let z = ap why_number k in (omega arith, omega arith)

-- a refusal by its reason and its place
refusal_is : (r : Refusal) (y : Why) (p : ℕ) → r.why ≡ y → r.place ≡ p → r ≡ record { why = y; place = p }
refusal_is r y p e q = rw (← e, ← q)

-- a 33rd task is refused with 4 at 640, unless an earlier record is refused
pub crowded : (s : List ℕ) (n m : ℕ) → Laid s n m → 32 < n
    → RefusedBy (read_table s) (λ r. (r.place < 640) ⊎ (r ≡ record { why = TooMany; place = 640 }))
crowded s n m f l = less_said (λ r d. first r d.fault) (found s n m f (λ e. omega (arith, (well_formed s (counted n m) e).tasks_most)))
  where
    -- of the faults, only the 33rd task's is not at an earlier place
    first : (r : Refusal) → Fault n m r → (r.place < 640) ⊎ (r ≡ record { why = TooMany; place = 640 })
    first r (in_task i a b p k) = inl (omega arith)
    first r (in_crowd a p k) = inr (refusal_is r TooMany 640 k p)
    first r (in_use j a b c p k) = absurd (omega arith)
    first r (in_end a b p k) = absurd (omega arith)

-- a 513th use of priority 0 is refused with 3, unless an earlier record is refused
pub overused : (s : List ℕ) (n m : ℕ) → Laid s n m → n ≤ 32 → 512 < m → (use_at s (20 * n + 4096)).priority ≡ 0
    → RefusedBy (read_table s) (λ r. (r.place < 20 * n + 4096) ⊎ (r ≡ record { why = Order; place = 20 * n + 4096 }))
overused s n m f few l e =
    less_said (λ r d. go r d (dec_lt r.place (20 * n + 4096))) (found s n m f (λ a. omega (arith, (well_formed s (counted n m) a).uses_most)))
  where
    -- an earlier place, or that of the use, where the rule says 3
    go : (r : Refusal) → Found s n m r → Dec (r.place < 20 * n + 4096)
        → (r.place < 20 * n + 4096) ⊎ (r ≡ record { why = Order; place = 20 * n + 4096 })
    go r d (yes c) = inl c
    go r d (no c) =
        let p : r.place ≡ 20 * n + 4096 = omega (arith, d.most) in
        inr (refusal_is r Order (20 * n + 4096) (d.unowned 512 l p e) p)
