-- What a host is told: refused with 8 exactly when the total is larger than the allowance, an answer given stands under any larger one, the
-- verdict is yes exactly when no task has none, and a value is conditional exactly when some task has none.
use Prim.Native.Nat.{ℕ, ◌-◌, ◌≤◌, ◌<◌}
use Rattle.std.specs.Prelude.{Ok, Err, None}
use mathlib.Core.Path.{◌≡◌, refl, sym, ap, ap₂, ◌∙◌}
use mathlib.Core.Logic.{◌↔◌}
use mathlib.Core.Bool.{Bool, true, false, cond}
use mathlib.Core.List.{List}
use native.Mathlib.Decide.{dec_le}
use native.Mathlib.Omega.{arith}
use lib.ListN.{get_or, replicate, get_or-append}
use lib.Dec.{ltb}
use borrow.Author.Tests.{lt-ltb}
use Rattle.searches.proofs.Testing.{impossible}
use Rattle.searches.proofs.Searching.{all_each, all_fails, all_true}
use Rattle.searches.proofs.Indexed.{filled_at}
use Rattle.table.specs.declared.Shape.{Shape}
use Rattle.table.specs.declared.Why.TheVariants.{Allowance}
use Rattle.table.specs.Reading.{Reading, read_table}
use Rattle.table.specs.WellFormed.{task_of}
use Rattle.table.proofs.Accepted.{well_formed}
use Rattle.rounds.specs.Answer as theory
use Rattle.rounds.specs.Answer.{Solution, Right, value}
use Rattle.rounds.specs.System.{deadline}
use Rattle.rounds.specs.Vector.{at}
use Rattle.rounds.specs.Rounds.{analysis, answer}
use Rattle.rounds.proofs.AllowanceLaws.{within_allowed, beyond_refused}
use Rattle.equations.specs.View.{own_settings}
use Rattle.analysis.specs.declared.Analysis.{Analysis}
use Rattle.analysis.specs.declared.TaskAnswer.TheVariants.{Bound, Conditional, Nothing}
use Rattle.analysis.specs.Rounding.{bounded}
use Rattle.analysis.specs.Refusing.{refusal_number}
use Rattle.analysis.specs.Analysing.{own_system, refused_by, verdict_of, done_by, analysed_as, analysed}
use Rattle.analysis.specs.Answering.{told, answer_at, told_of}
use Rattle.analysis.proofs.Table.{table_size, deadline_is}
use Rattle.analysis.proofs.Right.{largest_vector, each_right, each_value}

-- the total of an accepted table
abbrev pub total_of : List ℕ → Shape → ℕ
total_of s h = (analysis (own_system s h)).evaluations

-- some task has none
abbrev pub SomeNone : List ℕ → Shape → Type 0
SomeNone s h = (j : ℕ) × (j < h.tasks) × (answer (own_system s h) j ≡ theory.none)

-- ---- the allowance

module _ (s : List ℕ) (h : Shape) (allowance : ℕ) where
  done_as : total_of s h ≤ allowance → analysed_as (Ok h) s allowance ≡ done_by s h (analysis (own_system s h))
  unfolding analysed_as
  done_as l = rw (within_allowed (own_system s h) allowance l)

  spent_as : allowance < total_of s h → analysed_as (Ok h) s allowance ≡ refused_by (record { why = Allowance; place = 0 })
  unfolding analysed_as
  spent_as l = rw (beyond_refused (own_system s h) allowance l)

  -- an accepted table is refused exactly when its total is larger than the allowance, and then with 8
  pub refused_exactly : read_table s ≡ Ok h → (refusal_number (analysed s allowance).refusal ≡ 8) ↔ (allowance < total_of s h)
  refused_exactly e = (λ q. go q (dec_le (total_of s h) allowance), λ l. number ∙ ap (λ (a : Analysis). refusal_number a.refusal) (spent_as l))
    where
      number : refusal_number (analysed s allowance).refusal ≡ refusal_number (analysed_as (Ok h) s allowance).refusal
      number = ap (λ (r : Reading). refusal_number (analysed_as r s allowance).refusal) e

      go : refusal_number (analysed s allowance).refusal ≡ 8 → Dec (total_of s h ≤ allowance) → allowance < total_of s h
      go q (no l) = omega arith
      go q (yes l) = absurd (omega (arith, q, number, ap (λ (a : Analysis). refusal_number a.refusal) (done_as l)))

-- a larger allowance never alters an answer already given: what is not refused with 8 stands
pub larger_allowance : (s : List ℕ) (a b : ℕ) → a ≤ b → (refusal_number (analysed s a).refusal ≡ 8 → ⊥) → analysed s b ≡ analysed s a
unfolding analysed_as
larger_allowance s a b l given = go (read_table s) given
  where
    within : (h : Shape) → (refusal_number (analysed_as (Ok h) s a).refusal ≡ 8 → ⊥) → Dec (total_of s h ≤ a)
        → analysed_as (Ok h) s b ≡ analysed_as (Ok h) s a
    within h n (yes k) = done_as s h b (omega arith) ∙ sym (done_as s h a k)
    within h n (no k) = absurd (n (ap (λ (x : Analysis). refusal_number x.refusal) (spent_as s h a (omega arith))))

    go : (r : Reading) → (refusal_number (analysed_as r s a).refusal ≡ 8 → ⊥) → analysed_as r s b ≡ analysed_as r s a
    go (Err f) n = refl
    go (Ok h) n = within h n (dec_le (total_of s h) a)

-- no answer is about more than 32 tasks
pub tasks_most : (s : List ℕ) (allowance : ℕ) → (analysed s allowance).tasks ≤ 32
unfolding analysed_as
tasks_most s allowance = go (read_table s) refl
  where
    within : (h : Shape) → h.tasks ≤ 32 → Dec (total_of s h ≤ allowance) → (analysed_as (Ok h) s allowance).tasks ≤ 32
    within h few (yes l) = rw (done_as s h allowance l) few
    within h few (no l) = rw (spent_as s h allowance (omega arith)) (omega arith)

    go : (r : Reading) → read_table s ≡ r → (analysed_as r s allowance).tasks ≤ 32
    go (Err f) e = omega arith
    go (Ok h) e = within h (well_formed s h e).tasks_most (dec_le (total_of s h) allowance)

-- ---- the verdict and the answers

bounded_none : (a : theory.Answer) → bounded a ≡ false → a ≡ theory.none
bounded_none (theory.bound t) e = absurd (impossible cc)
bounded_none theory.none e = refl

some_bounded : (a : theory.Answer) → (a ≡ theory.none → ⊥) → bounded a ≡ true
some_bounded (theory.bound t) n = refl
some_bounded theory.none n = absurd (n refl)

bounded_not : (a : theory.Answer) → bounded a ≡ true → a ≡ theory.none → ⊥
bounded_not (theory.bound t) e q = impossible cc
bounded_not theory.none e q = impossible cc

-- a mark and a value tell the answer that they stand for
told_answer : (verdict : Bool) (d : ℕ) (a : theory.Answer) → told verdict (bounded a) (value d a) ≡ told_of verdict a
told_answer true d (theory.bound t) = refl
told_answer false d (theory.bound t) = refl
told_answer true d theory.none = refl
told_answer false d theory.none = refl

module _ (s : List ℕ) (h : Shape) (e : read_table s ≡ Ok h) (allowance : ℕ) (l : total_of s h ≤ allowance) where
  -- the reply in full
  whole : analysed s allowance ≡ done_by s h (analysis (own_system s h))
  whole = ap (λ (r : Reading). analysed_as r s allowance) e ∙ done_as s h allowance l

  verdict_is : (analysed s allowance).verdict ≡ verdict_of s h
  verdict_is = ap (λ (a : Analysis). a.verdict) whole

  -- the verdict is yes exactly when no task has none
  pub verdict_yes : ((analysed s allowance).verdict ≡ true) ↔ ((i : ℕ) → i < h.tasks → answer (own_system s h) i ≡ theory.none → ⊥)
  verdict_yes = (
    λ q i p. bounded_not (answer (own_system s h) i) (all_each (λ j. bounded (answer (own_system s h) j)) h.tasks (sym verdict_is ∙ q) i p),
    λ f. verdict_is ∙ all_true (λ j. bounded (answer (own_system s h) j)) h.tasks (λ i p. some_bounded (answer (own_system s h) i) (f i p)),
  )

  module _ (i : ℕ) (p : i < h.tasks) where
    mark_is : get_or (done_by s h (analysis (own_system s h))).bounds i false ≡ bounded (answer (own_system s h) i)
    mark_is = filled_at (λ j. bounded (answer (own_system s h) j)) false h.tasks (32 - h.tasks) i p

    value_is : get_or (done_by s h (analysis (own_system s h))).values i 0 ≡ value (deadline (own_system s h) i) (answer (own_system s h) i)
    value_is =
        let sized = (largest_vector s h e).agrees.sized in
        let tasks = table_size s h (own_settings s h.tasks) (well_formed s h e) in
        get_or-append (analysis (own_system s h)).vector (replicate (32 - h.tasks) 0) 0 i (omega arith) ∙ each_value s h e i p

    -- each task is told its answer, as the verdict lets it be told
    pub each_told : answer_at (analysed s allowance) i ≡ told_of (verdict_of s h) (answer (own_system s h) i)
    each_told =
        let few = (well_formed s h e).tasks_most in
        ap (λ (a : Analysis). answer_at a i) whole
        ∙ rw (lt-ltb i 32 (omega arith), mark_is, value_is) (told_answer (verdict_of s h) (deadline (own_system s h) i) (answer (own_system s h) i))

    -- a value is conditional exactly when the task has a bound and some task has none
    pub conditional_exactly : (t : ℕ) → (answer_at (analysed s allowance) i ≡ Conditional t) ↔ ((answer (own_system s h) i ≡ theory.bound t) × SomeNone s h)
    conditional_exactly t =
        (λ q. there (verdict_of s h) refl (answer (own_system s h) i) refl (sym each_told ∙ q), λ w. each_told ∙ back (verdict_of s h) refl w.0 w.1)
      where
        there : (verdict : Bool) → verdict_of s h ≡ verdict → (a : theory.Answer) → answer (own_system s h) i ≡ a → told_of verdict a ≡ Conditional t
            → (answer (own_system s h) i ≡ theory.bound t) × SomeNone s h
        there true v (theory.bound u) f q = absurd (impossible cc)
        there true v theory.none f q = absurd (impossible cc)
        there false v theory.none f q = absurd (impossible cc)
        there false v (theory.bound u) f q =
            let same : u ≡ t = cc in
            let w = all_fails (λ j. bounded (answer (own_system s h) j)) h.tasks v in
            (f ∙ ap theory.bound same, (w.0, w.1, bounded_none (answer (own_system s h) w.0) w.2))

        back : (verdict : Bool) → verdict_of s h ≡ verdict → answer (own_system s h) i ≡ theory.bound t → SomeNone s h
            → told_of (verdict_of s h) (answer (own_system s h) i) ≡ Conditional t
        back true v f w = absurd (verdict_yes.0 (verdict_is ∙ v) w.0 w.1 w.2)
        back false v f w = rw (v, f)

-- where every task has a bound, each is its value, and solves its equation within its deadline
pub yes_solves : (s : List ℕ) (h : Shape) → read_table s ≡ Ok h → verdict_of s h ≡ true → (i : ℕ) → i < h.tasks
    → (t : ℕ) × (answer (own_system s h) i ≡ theory.bound t) × (at (analysis (own_system s h)).vector i ≡ t)
    × Solution ((own_system s h).side i (analysis (own_system s h)).vector) (task_of s i).deadline t
yes_solves s h e yes-all i p =
    go (answer (own_system s h) i) refl (all_each (λ j. bounded (answer (own_system s h) j)) h.tasks yes-all i p)
    (each_right s h e i p) (each_value s h e i p)
  where
    v : List ℕ
    v = (analysis (own_system s h)).vector

    go : (a : theory.Answer) → answer (own_system s h) i ≡ a → bounded a ≡ true → Right ((own_system s h).side i v) (deadline (own_system s h) i) a
        → at v i ≡ value (deadline (own_system s h) i) a
        → (t : ℕ) × (answer (own_system s h) i ≡ theory.bound t) × (at v i ≡ t) × Solution ((own_system s h).side i v) (task_of s i).deadline t
    go (theory.bound t) q b r x = (t, q, x, rw (deadline_is s h (own_settings s h.tasks) (well_formed s h e) i p) r.solution)
    go theory.none q b r x = absurd (impossible cc)

-- a verdict of yes is given only within the allowance
pub verdict_enough : (s : List ℕ) (h : Shape) → read_table s ≡ Ok h → (allowance : ℕ) → (analysed s allowance).verdict ≡ true
    → total_of s h ≤ allowance
verdict_enough s h e allowance q = go (dec_le (total_of s h) allowance)
  where
    go : Dec (total_of s h ≤ allowance) → total_of s h ≤ allowance
    go (yes l) = l
    go (no l) =
        let spent = ap (λ (r : Reading). (analysed_as r s allowance).verdict) e ∙ ap (λ (a : Analysis). a.verdict) (spent_as s h allowance (omega arith)) in
        absurd (impossible (cc (q, spent)))

module _ (s : List ℕ) (h : Shape) (e : read_table s ≡ Ok h) (allowance : ℕ) (yes-all : (analysed s allowance).verdict ≡ true) where
  -- then nothing is refused, and the answers are those of all tasks
  pub yes_unrefused : ((analysed s allowance).refusal ≡ None) × ((analysed s allowance).tasks ≡ h.tasks)
  yes_unrefused =
      let w = whole s h e allowance (verdict_enough s h e allowance yes-all) in
      (ap (λ (a : Analysis). a.refusal) w, ap (λ (a : Analysis). a.tasks) w)

  -- and each task is told a bound, from 1 to its deadline
  pub yes_told : (i : ℕ) → i < h.tasks → (t : ℕ) × (answer_at (analysed s allowance) i ≡ Bound t) × (1 ≤ t) × (t ≤ (task_of s i).deadline)
  yes_told i p =
      let l = verdict_enough s h e allowance yes-all in
      let v = sym (verdict_is s h e allowance l) ∙ yes-all in
      let w = yes_solves s h e v i p in
      (w.0, each_told s h e allowance l i p ∙ ap₂ told_of v w.1, w.3.positive, w.3.within)

-- a bound is told only beside a verdict of yes
bound_yes : (a : Analysis) (i t : ℕ) → answer_at a i ≡ Bound t → a.verdict ≡ true
bound_yes a i t e = go (ltb i 32) a.verdict (get_or a.bounds i false) (get_or a.values i 0) e
  where
    go : (inside verdict mark : Bool) (x : ℕ) → cond inside (told verdict mark x) Nothing ≡ Bound t → verdict ≡ true
    go true true mark x q = refl
    go true false true x q = absurd (impossible cc)
    go true false false x q = absurd (impossible cc)
    go false verdict mark x q = absurd (impossible cc)

-- so only where every task has one, and then it is the task's answer
pub bound_says : (s : List ℕ) (h : Shape) → read_table s ≡ Ok h → (allowance i t : ℕ) → i < h.tasks
    → answer_at (analysed s allowance) i ≡ Bound t → (verdict_of s h ≡ true) × (answer (own_system s h) i ≡ theory.bound t)
bound_says s h e allowance i t p q =
    let l = verdict_enough s h e allowance (bound_yes (analysed s allowance) i t q) in
    go (verdict_of s h) (answer (own_system s h) i) (sym (each_told s h e allowance l i p) ∙ q)
  where
    go : (verdict : Bool) (a : theory.Answer) → told_of verdict a ≡ Bound t → (verdict ≡ true) × (a ≡ theory.bound t)
    go true (theory.bound u) f = (refl, let same : u ≡ t = cc in ap theory.bound same)
    go false (theory.bound u) f = absurd (impossible cc)
    go true theory.none f = absurd (impossible cc)
    go false theory.none f = absurd (impossible cc)
