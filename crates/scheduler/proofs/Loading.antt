-- The arrays of a fresh scheduler, as a loop fills them from a table's bytes.
use mathlib.Core.Path.{◌≡◌, refl, sym, ap, ap₂, ◌∙◌}
use mathlib.Core.Bool.{Bool, true, false, cond}
use mathlib.Core.List.{List}
use Prim.Native.Nat.{ℕ, suc, ◌+◌, ◌*◌, ◌-◌, ◌/◌, ◌%◌, ◌<◌}
use native.Mathlib.Omega.{arith}
use native.Mathlib.Decide.{ℕ_discrete, dec_lt}
use lib.Dec.{ltb, eqb}
use lib.ListN.{get_or, set, length-set, replicate, length-replicate, get_or-replicate}
use lib.Seq.{get_or-set_same, get_or-set_other}
use borrow.Author.Tests.{eq-eqb, eqb-true, lt-ltb, le-ltb}
use Rattle.searches.specs.Searches.{only}
use Rattle.searches.proofs.Testing.{and_true, true_and}
use Rattle.table.specs.declared.Shape.{Shape}
use Rattle.table.specs.declared.Use.{Use}
use Rattle.table.specs.declared.Refusal.{Refusal}
use Rattle.std.proofs.Common.{None, Some, Ok, Err}
use Rattle.table.specs.Reading.{read_table}
use Rattle.table.specs.Rules.{place_from}
use Rattle.searches.specs.Indexed.{every}
use Rattle.table.specs.WellFormed.{task_of, use_of, user_of, WellFormed}
use Rattle.searches.proofs.Indexed.{length_every, every_at, listed}
use Rattle.table.proofs.Laws.{place_has}
use Rattle.scheduler.specs.declared.Scheduler.{Scheduler}
use Rattle.scheduler.specs.Fresh.{column, names, times_of, times_by, fresh_of, empty, set_up_by, set_up}

-- ---- an array by its places

-- zeros
zeros : (n : ℕ) (f : ℕ → ℕ) → ((k : ℕ) → f k ≡ 0) → replicate n 0 ≡ every f n 0
zeros n f h = listed (replicate n 0) 0 n f (length-replicate n 0) (λ k lt. get_or-replicate n k 0 0 lt ∙ sym (h k))

-- one place changed
one_changed : (f g : ℕ → ℕ) (n i x : ℕ) → i < n → x ≡ g i → ((k : ℕ) → k < n → (k ≡ i → ⊥) → f k ≡ g k) → set (every f n 0) i x ≡ every g n 0
one_changed f g n i x h e same =
    listed (set (every f n 0) i x) 0 n g (length-set (every f n 0) i x ∙ length_every f n 0) (λ k lt. go k lt (ℕ_discrete k i))
  where
    go : (k : ℕ) → k < n → Dec (k ≡ i) → get_or (set (every f n 0) i x) k 0 ≡ g k
    go k lt (yes q) = rw q (get_or-set_same (every f n 0) i x 0 (omega (arith, length_every f n 0)) ∙ e)
    go k lt (no ne) = get_or-set_other (every f n 0) i k x 0 ne ∙ every_at f n k 0 lt ∙ same k lt ne

-- ---- a byte of each task

-- of no task yet
pub column_start : (s : List ℕ) (field : ℕ) → replicate 32 0 ≡ column s 0 field
column_start s field = zeros 32 _ (λ k. rw (le-ltb k 0 (omega arith)))

-- of one task more
pub column_more : (s : List ℕ) (field i x : ℕ) → i < 32 → x ≡ get_or s (20 * i + field) 0 → set (column s i field) i x ≡ column s (i + 1) field
column_more s field i x h e =
    one_changed (λ k. only (ltb k i) (get_or s (20 * k + field) 0)) (λ k. only (ltb k (i + 1)) (get_or s (20 * k + field) 0)) 32 i x h
    (rw (lt-ltb i (i + 1) (omega arith)) e) (λ k lt ne. go k ne (dec_lt k i))
  where
    go : (k : ℕ) → (k ≡ i → ⊥) → Dec (k < i) → only (ltb k i) (get_or s (20 * k + field) 0) ≡ only (ltb k (i + 1)) (get_or s (20 * k + field) 0)
    go k ne (yes l) = rw (lt-ltb k i l, lt-ltb k (i + 1) (omega arith))
    go k ne (no l) = rw (le-ltb k i (omega arith), le-ltb k (i + 1) (omega arith))

-- ---- N for each task and resource

-- by no use yet
pub times_start : (s : List ℕ) (n start : ℕ) → replicate 512 0 ≡ times_by s n start 0
unfolding times_of
times_start s n start = zeros 512 _ (λ k. only_zero (ltb (k / 16) n))
  where
    only_zero : (b : Bool) → only b 0 ≡ 0
    only_zero true = refl
    only_zero false = refl

-- tasks of one priority are one
pub one_task : (s : List ℕ) (h : Shape) → WellFormed s h → (a b : ℕ) → a < h.tasks → b < h.tasks → (task_of s a).priority ≡ (task_of s b).priority → a ≡ b
one_task s h W a b la lb e = go (dec_lt a b) (dec_lt b a)
  where
    go : Dec (a < b) → Dec (b < a) → a ≡ b
    go (yes l) d = let f = W.falling a b l lb in absurd (omega arith)
    go (no l) (yes m) = let f = W.falling b a m la in absurd (omega arith)
    go (no l) (no m) = omega arith

module _ (s : List ℕ) (h : Shape) (W : WellFormed s h) (j : ℕ) (lt : j < h.uses) where
  -- the place of the use's task
  abbrev user : ℕ
  user = user_of s h.tasks h.uses_at j

  -- its resource
  abbrev resource : ℕ
  resource = (use_of s h.uses_at j).resource

  -- it is within the array
  slot_inside : user * 16 + (resource - 1) < 512
  slot_inside = omega (arith, W.owned j lt, W.tasks_most, (W.use_range j lt).resource, (W.use_range j lt).resource_most)

  -- its task has the priority that it names
  pub user_has : (task_of s user).priority ≡ (use_of s h.uses_at j).priority
  user_has = place_has h.tasks s 0 (use_of s h.uses_at j).priority (omega (arith, W.owned j lt))

  -- by one use more
  times_more : (x : ℕ) → x ≡ (use_of s h.uses_at j).times
      → set (times_by s h.tasks h.uses_at j) (user * 16 + (resource - 1)) x ≡ times_by s h.tasks h.uses_at (j + 1)
  unfolding times_of
  times_more x e =
      one_changed (number j) (number (j + 1)) 512 (user * 16 + (resource - 1)) x slot_inside here (λ k l ne. other k ne (dec_lt (k / 16) h.tasks))
    where
      number : ℕ → ℕ → ℕ
      number m k = only (ltb (k / 16) h.tasks) (times_of s h.uses_at m (task_of s (k / 16)).priority (k % 16 + 1))

      own : number (j + 1) (user * 16 + (resource - 1))
          ≡ only (ltb user h.tasks) (times_of s h.uses_at (j + 1) (task_of s user).priority resource)
      own =
          let low = (W.use_range j lt).resource in
          let high = (W.use_range j lt).resource_most in
          let q : (user * 16 + (resource - 1)) / 16 ≡ user = omega arith in
          let m : (user * 16 + (resource - 1)) % 16 + 1 ≡ resource = omega arith in
          ap₂ (λ a b. only (ltb a h.tasks) (times_of s h.uses_at (j + 1) (task_of s a).priority b)) q m

      named : names (use_of s h.uses_at j) (task_of s user).priority resource ≡ true
      named = true_and (eq-eqb _ _ (sym user_has)) (eq-eqb resource resource refl)

      here : x ≡ number (j + 1) (user * 16 + (resource - 1))
      here = let more : j + 1 ≡ suc j = omega arith in e ∙ sym (own ∙ rw (lt-ltb user h.tasks (W.owned j lt), more, named))

      kept : (k : ℕ) → (k ≡ user * 16 + (resource - 1) → ⊥) → k / 16 < h.tasks → (b : Bool)
          → names (use_of s h.uses_at j) (task_of s (k / 16)).priority (k % 16 + 1) ≡ b → {y : ℕ} → y ≡ cond b (use_of s h.uses_at j).times y
      kept k ne l true t =
          let w = and_true (eqb (use_of s h.uses_at j).priority (task_of s (k / 16)).priority) _ t in
          let a = one_task s h W user (k / 16) (W.owned j lt) l (user_has ∙ eqb-true _ _ w.0) in
          let b = eqb-true resource (k % 16 + 1) w.1 in
          absurd (ne (omega arith))
      kept k ne l false t = refl

      other : (k : ℕ) → (k ≡ user * 16 + (resource - 1) → ⊥) → Dec (k / 16 < h.tasks) → number j k ≡ number (j + 1) k
      other k ne (yes l) = let more : j + 1 ≡ suc j = omega arith in rw (lt-ltb (k / 16) h.tasks l, more) (kept k ne l _ refl)
      other k ne (no l) = rw (le-ltb (k / 16) h.tasks (omega arith))

  -- ---- what the code finds of the use

  module _ (u : Use) (place r : ℕ) (eu : u ≡ use_of s h.uses_at j) (ep : place ≡ place_from (h.tasks - 0) s 0 u.priority)
      (er : r ≡ u.resource)
    where
      -- its task's place
      place_is : place ≡ user
      place_is = let z : h.tasks - 0 ≡ h.tasks = omega arith in ep ∙ ap₂ (λ n x. place_from n s 0 x.priority) z eu

      -- its resource
      resource_is : r ≡ resource
      resource_is = er ∙ ap (λ x. x.resource) eu

      -- and the slot of both
      slot_is : place * 16 + (r - 1) ≡ user * 16 + (resource - 1)
      slot_is = omega (arith, place_is, resource_is)

      pub times_next : set (times_by s h.tasks h.uses_at j) (place * 16 + (r - 1)) u.times ≡ times_by s h.tasks h.uses_at (j + 1)
      times_next = rw slot_is (times_more u.times (ap (λ x. x.times) eu))

-- ---- by what the bytes are read as

module _ (s : List ℕ) where
  -- an accepted table
  pub set_up_accepted : (h : Shape) (x : Scheduler) → read_table s ≡ Ok h → x ≡ fresh_of s h
      → record { refusal = None; scheduler = x } ≡ set_up s
  unfolding set_up_by
  set_up_accepted h x r e = ap (λ y. record { refusal = None; scheduler = y }) e ∙ sym (ap (λ q. set_up_by q s) r)

  -- a refused one
  pub set_up_refused : (f : Refusal) (x : Scheduler) → read_table s ≡ Err f → x ≡ empty → record { refusal = Some f; scheduler = x } ≡ set_up s
  unfolding set_up_by
  set_up_refused f x r e = ap (λ y. record { refusal = Some f; scheduler = y }) e ∙ sym (ap (λ q. set_up_by q s) r)
