-- Calls that come to an end: tests that the checker computes, and calls that pass them keep to the table.
use Prim.Native.Nat.{ℕ, zero, suc, ◌+◌, ◌-◌, ◌≤◌, ◌<◌}
use mathlib.Core.Path.{◌≡◌, refl, ap, ◌∙◌}
use mathlib.Core.Bool.{Bool, true, false, not, ◌&&◌, ◌||◌, or-true}
use mathlib.Core.List.{List}
use native.Mathlib.Omega.{arith}
use native.Mathlib.Nat.{le_refl, add-suc}
use native.Mathlib.Decide.{dec_le, dec_lt, ℕ_discrete}
use lib.Dec.{ltb, leb}
use lib.ListN.{get_or, length, get_or-eq_default}
use borrow.Author.Tests.{ltb-true, leb-true, le-leb, lt-leb, not-true}
use Rattle.searches.specs.Searches.{all, only}
use Rattle.searches.specs.Indexed.{sum_to}
use Rattle.searches.proofs.Testing.{impossible}
use Rattle.searches.proofs.Searching.{all_each}
use Rattle.searches.proofs.Sums.{sum_to_none, sum_to_flat, sum_to_alike, sum_to_first, sum_to_grows}
use Rattle.table.specs.declared.Shape.{Shape}
use Rattle.table.specs.declared.Task.{Task}
use Rattle.table.specs.declared.Use.{Use}
use Rattle.table.specs.WellFormed.{task_of, use_of}
use Rattle.protocol.specs.Trace.{Event, released, opened, closed, ended, Has}
use Rattle.protocol.proofs.Listed.{is, is_itself, is_so}
use Rattle.timing.specs.Statement.{Clock, At, calls_by, Seen, executes, rests, count, Obeys, Prompt, OverWithin}
use Rattle.timing.proofs.Instants.{first_rises}

-- ---- instants

-- so many calls at the instants 0, 1 and so on, and none after them
abbrev pub clock_of : List ℕ → Clock
clock_of counts = record {
  first = sum_to (λ t. get_or counts t 0);
  from_none = sum_to_none (λ t. get_or counts t 0) 0 refl;
  goes_on = λ t. sum_to_grows (λ t. get_or counts t 0) t (suc t) (omega arith);
}

-- ---- from one event to another

-- The call o brings the event e about, and none after it and below k brings f about: so it is of a job or a section that is there.
record Spell (ev : ℕ → Event) (e f : Event) (o k : ℕ) : Type 0 where
  began : ev o ≡ e
  made : o < k
  kept : (j : ℕ) → o < j → j < k → ev j ≡ f → ⊥

-- so it was before
was_so : {ev : ℕ → Event} {e f : Event} {o j k : ℕ} → Spell ev e f o k → o < j → j ≤ k → Spell ev e f o j
was_so w lt le = record { began = w.began; made = lt; kept = λ x lo hi. w.kept x lo (omega arith) }

module _ (ev : ℕ → Event) (e f : Event) where
  -- whether after k calls there was an event e, and no f since
  unfoldable pub lasts : ℕ → Bool
  lasts zero = false
  lasts (suc k) = is (ev k) e || (not (is (ev k) f) && lasts k)

  -- the test passes where it is so
  lasts_so : {o : ℕ} (k : ℕ) → Spell ev e f o k → lasts k ≡ true
  unfolding lasts
  lasts_so zero w = absurd (omega (arith, w.made))
  lasts_so {o} (suc k) w = go (ℕ_discrete o k) (is (ev k) f) refl (lasts_so k)
    where
      go : Dec (o ≡ k) → (b : Bool) → is (ev k) f ≡ b → (Spell ev e f o k → lasts k ≡ true) → is (ev k) e || (not b && lasts k) ≡ true
      go (yes q) b t more = rw (← q, w.began, is_itself e)
      go (no ne) true t more = absurd (w.kept k (omega (arith, w.made)) (omega arith) (is_so (ev k) f t))
      go (no ne) false t more = rw (more (was_so w (omega (arith, w.made)) (omega arith))) (or-true (is (ev k) e))

module _ (g : ℕ → Bool) (c : ℕ → ℕ) where
  -- the sum of c over the ticks before t, since g last failed
  unfoldable pub since : ℕ → ℕ
  since zero = 0
  since (suc t) = only (g t) (since t + c t)

  -- it is no less than over ticks in which g doesn't fail
  since_so : (u n : ℕ) → ((x : ℕ) → x < n → g (u + x) ≡ true) → count c u n ≤ since (u + n)
  unfolding sum_to since
  since_so u zero h = omega arith
  since_so u (suc n) h = rw (add-suc u n, h n (omega arith)) (omega (arith, since_so u n (λ x lt. h x (omega arith))))

-- ---- the tests

module _ (s : List ℕ) (h : Shape) (counts : List ℕ) (X : Seen) where
  -- when the calls are made
  abbrev clock : Clock
  clock = clock_of counts

  -- from this instant on nothing is called
  abbrev end : ℕ
  end = length counts

  -- whether by the tick t there was an event e, and no f since
  abbrev lasting : Event → Event → ℕ → Bool
  lasting e f t = lasts X.event e f (calls_by clock t)

  -- the instant of a call: so many are over before it
  abbrev instant_of : ℕ → ℕ
  instant_of a = sum_to (λ t. only (leb (calls_by clock t) a) 1) end

  -- whether any two calls that bring the event e about are at instants n apart, or more
  abbrev apart : Event → ℕ → Bool
  apart e n =
      all (λ b. all (λ a. not (is (X.event a) e && is (X.event b) e) || leb (instant_of a + n) (instant_of b)) b) (calls_by clock end)

  -- whether each event e is followed by an f
  abbrev over : Event → Event → Bool
  over e f = not (lasting e f end)

  -- whether, in each tick between an event e and the next f, c is below m over the ticks before it
  abbrev below : Event → Event → (ℕ → ℕ) → ℕ → Bool
  below e f c m = all (λ t. not (lasting e f t) || ltb (since (lasting e f) c t) m) end

  -- whether c is at most m over all ticks between an event e and the next f
  abbrev within : Event → Event → (ℕ → ℕ) → ℕ → Bool
  within e f c m = all (λ t. leb (since (lasting e f) c t) m) (suc end)

  -- a task's figures
  abbrev task : ℕ → Task
  task i = task_of s i

  -- its release
  abbrev comes : ℕ → Event
  comes i = released (task i).priority

  -- the end of its job
  abbrev goes : ℕ → Event
  goes i = ended (task i).priority

  -- a use's figures
  abbrev usage : ℕ → Use
  usage k = use_of s h.uses_at k

  -- its lock
  abbrev locks : ℕ → Event
  locks k = opened (usage k).priority (usage k).resource

  -- its unlock
  abbrev unlocks : ℕ → Event
  unlocks k = closed (usage k).priority (usage k).resource

  -- whether the job of a task executes in C ticks at most
  abbrev works_within : ℕ → Bool
  works_within i = within (comes i) (goes i) (executes clock X (task i).priority) (task i).run

  -- whether it has executed in less than C before each tick in which it is there
  abbrev pub ends_promptly : ℕ → Bool
  ends_promptly i = below (comes i) (goes i) (executes clock X (task i).priority) (task i).run

  -- whether it sleeps through S at most
  abbrev sleeps_within : ℕ → Bool
  sleeps_within i = within (comes i) (goes i) (rests clock X i) (task i).sleep

  -- whether in each section of a use its job executes in L ticks at most
  abbrev holds_within : ℕ → Bool
  holds_within k = within (locks k) (unlocks k) (executes clock X (usage k).priority) (usage k).length

  -- Each job ends, each section is closed, and they keep to their figures.
  pub record Passes : Type 0 where
    pub coming : all (λ i. apart (comes i) (task i).period) h.tasks ≡ true
    pub all_end : all (λ i. over (comes i) (goes i)) h.tasks ≡ true
    pub all_close : all (λ k. over (locks k) (unlocks k)) h.uses ≡ true
    pub working : all works_within h.tasks ≡ true
    pub sleeping : all sleeps_within h.tasks ≡ true
    pub holding : all holds_within h.uses ≡ true

  -- ---- that they suffice

  -- after the end no call is made
  still : (t : ℕ) → end ≤ t → clock.first t ≡ clock.first end
  still t le =
      let e : t ≡ end + (t - end) = omega arith in
      ap clock.first e ∙ sum_to_flat (λ t. get_or counts t 0) end (t - end) 0 (λ y lo hi. get_or-eq_default counts 0 lo) ∙ omega arith

  -- a call is made before the end
  made_before : (a t : ℕ) → At clock a t → t < end
  made_before a t made = go (dec_lt t end)
    where
      go : Dec (t < end) → t < end
      go (yes lt) = lt
      go (no ge) = absurd (omega (arith, made.from, made.till, still t (omega arith), still (suc t) (omega arith)))

  -- at the instant that is counted
  instant_so : (a t : ℕ) → At clock a t → instant_of a ≡ t
  instant_so a t made =
      sum_to_first (λ x. 1) (λ x. only (leb (calls_by clock x) a) 1) t end (omega (arith, made_before a t made))
      (λ x lt. rw (le-leb (calls_by clock x) a (omega (arith, made.from, first_rises clock (suc x) t lt))))
      (λ x ge lt. rw (lt-leb (calls_by clock x) a (omega (arith, made.till, first_rises clock (suc t) (suc x) (omega arith)))))
      ∙ sum_to_alike (λ x. 1) t 1 (λ x lt. refl) ∙ omega arith

  -- what passed as apart is so
  apart_so : (e : Event) (n a b t u : ℕ) → apart e n ≡ true → a < b → X.event a ≡ e → X.event b ≡ e → At clock a t → At clock b u → t + n ≤ u
  apart_so e n a b t u passed lt first again came comes-again =
      let by_end : b < calls_by clock end =
      omega (arith, comes-again.till, first_rises clock (suc u) (suc end) (omega (arith, made_before b u comes-again))) in
      let row = all_each (λ b. all (λ a. not (is (X.event a) e && is (X.event b) e) || leb (instant_of a + n) (instant_of b)) b) (calls_by clock end)
      passed b by_end in
      let pair = all_each (λ a. not (is (X.event a) e && is (X.event b) e) || leb (instant_of a + n) (instant_of b)) b row a lt in
      let far : leb (instant_of a + n) (instant_of b) ≡ true = rw (first, again, is_itself e) at pair in
      omega (arith, leb-true (instant_of a + n) (instant_of b) far, instant_so a t came, instant_so b u comes-again)

  module _ (e f : Event) (closes : over e f ≡ true) {o : ℕ} where
    -- nothing lasts to the end
    ends : (t : ℕ) → end ≤ t → Spell X.event e f o (clock.first t) → ⊥
    ends t le w =
        let lasts_on : lasting e f end ≡ true = rw (still (suc end) (omega arith), ← still t le) (lasts_so X.event e f (clock.first t) w) in
        impossible (cc (lasts_on, not-true (lasting e f end) closes))

    -- the ticks counted are among those since the event
    since_counts : (c : ℕ → ℕ) (u n k : ℕ) → clock.first (u + n) ≤ k → o < calls_by clock u → Spell X.event e f o k
        → count c u n ≤ since (lasting e f) c (u + n)
    since_counts c u n k le lo w =
        since_so (lasting e f) c u n (λ x lt.
        lasts_so X.event e f (calls_by clock (u + x))
        (was_so w (omega (arith, lo, first_rises clock (suc u) (suc (u + x)) (omega arith)))
        (omega (arith, le, first_rises clock (suc (u + x)) (u + n) (omega arith)))))

    -- what passed as below m is so
    below_so : (c : ℕ → ℕ) (m u n : ℕ) → below e f c m ≡ true → o < calls_by clock u → Spell X.event e f o (calls_by clock (u + n))
        → count c u n < m
    below_so c m u n passed lo w = go (dec_lt (u + n) end)
      where
        go : Dec (u + n < end) → count c u n < m
        go (yes lt) =
            let t = all_each (λ t. not (lasting e f t) || ltb (since (lasting e f) c t) m) end passed (u + n) lt in
            let less : ltb (since (lasting e f) c (u + n)) m ≡ true = rw (lasts_so X.event e f (calls_by clock (u + n)) w) at t in
            omega (
              arith,
              ltb-true (since (lasting e f) c (u + n)) m less,
              since_counts c u n (calls_by clock (u + n)) (first_rises clock (u + n) (suc (u + n)) (omega arith)) lo w,
            )
        go (no ge) = absurd (ends (suc (u + n)) (omega arith) w)

    -- and so is what passed as within m
    within_so : (c : ℕ → ℕ) (m u n : ℕ) → within e f c m ≡ true → o < calls_by clock u → Spell X.event e f o (clock.first (u + n))
        → count c u n ≤ m
    within_so c m u n passed lo w = go (dec_le (u + n) end)
      where
        go : Dec (u + n ≤ end) → count c u n ≤ m
        go (yes le) =
            let t = all_each (λ t. leb (since (lasting e f) c t) m) (suc end) passed (u + n) (omega arith) in
            omega (arith, leb-true (since (lasting e f) c (u + n)) m t, since_counts c u n (clock.first (u + n)) (le_refl (clock.first (u + n))) lo w)
        go (no gt) = absurd (ends (u + n) (omega arith) w)

  -- each job ends
  job_ends : Passes → (i : ℕ) → i < h.tasks → over (comes i) (goes i) ≡ true
  job_ends P = all_each (λ i. over (comes i) (goes i)) h.tasks P.all_end

  -- calls that pass keep to the table
  pub keeps : Passes → Obeys s h clock X
  keeps P = record {
    apart = λ i a b t u lt l ea eb.
        apart_so (comes i) (task i).period a b t u (all_each (λ i. apart (comes i) (task i).period) h.tasks P.coming i lt) l ea eb;
    works = λ i a r n lt came w.
        within_so (comes i) (goes i) (job_ends P i lt) (executes clock X (task i).priority) (task i).run r n
        (all_each works_within h.tasks P.working i lt) came.till (record { began = w.began; made = w.made; kept = w.going });
    sleeps = λ i a r n lt came w.
        within_so (comes i) (goes i) (job_ends P i lt) (rests clock X i) (task i).sleep r n
        (all_each sleeps_within h.tasks P.sleeping i lt) came.till (record { began = w.began; made = w.made; kept = w.going });
    holds = λ k o r n lt came w.
        let closes = all_each (λ k. over (locks k) (unlocks k)) h.uses P.all_close k lt in
        within_so (locks k) (unlocks k) closes (executes clock X (usage k).priority) (usage k).length r n
        (all_each holds_within h.uses P.holding k lt) came.till (record { began = w.began; made = w.made; kept = w.kept });
  }

  -- and those that pass that test complete work that has ended
  pub prompt : Passes → all ends_promptly h.tasks ≡ true → (i a r : ℕ) → i < h.tasks → At clock a r → Prompt s clock X i a r
  prompt P passed i a r lt came n w =
      below_so (comes i) (goes i) (job_ends P i lt) (executes clock X (task i).priority) (task i).run r n
      (all_each ends_promptly h.tasks passed i lt) came.till (record { began = w.began; made = w.made; kept = w.going })

-- ---- jobs that are still there

-- a job that is there in the tick t isn't over by the instant t
pub not_over : (K : Clock) (X : Seen) (p a r v t : ℕ) → Has X.event p a (calls_by K t) → OverWithin K X p a r v → t < r + v
not_over K X p a r v t w (j, lo, hi, e) = go (dec_lt t (r + v))
  where
    go : Dec (t < r + v) → t < r + v
    go (yes lt) = lt
    go (no ge) = absurd (w.going j lo (omega (arith, hi, first_rises K (suc (r + v)) (suc t) (omega arith))) e)
