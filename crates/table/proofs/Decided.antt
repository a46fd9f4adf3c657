-- The front of the bytes decides: an input is read as its first 8,192 bytes are, or as any longer front of it.
use Prim.Native.Nat.{ℕ, zero, suc, ◌+◌, ◌*◌, ◌-◌, ◌≤◌, ◌<◌}
use mathlib.Core.Path.{◌≡◌, refl, sym, ap, ◌∙◌}
use mathlib.Core.List.{List}
use lib.ListN.{get_or, length, take, drop, take-append-drop, length-take, get_or-append}
use lib.Seq.{take_all}
use native.Mathlib.Omega.{arith}
use native.Mathlib.Decide.{dec_lt}
use borrow.Author.Tests.{le-ltb, lt-ltb, lt-leb}
use Rattle.std.specs.Prelude.{Option, Some, None, Result, Ok, Err}
use Rattle.table.specs.declared.Use.{Use}
use Rattle.table.specs.declared.walk.Walk.{Walk}
use Rattle.table.specs.declared.Refusal.{Refusal}
use Rattle.table.specs.declared.walk.Step.{Step}
use Rattle.table.specs.declared.walk.Step.TheVariants.{On, Done}
use Rattle.table.specs.declared.walk.Kind.{Kind}
use Rattle.table.specs.declared.walk.Kind.TheVariants as kinds
use Rattle.table.specs.Fields.{word_at, task_at, use_at}
use Rattle.table.specs.Rules.{task_rule, use_rule, with_task, with_use, place_from}
use Rattle.table.specs.Reading.{start_walk, ruled, task_step, use_step, end_step, kind_of, going, ending, step_of, step_at, user_at, onward, read_from, read_table}
use Rattle.table.proofs.Laws.{place_within}
use Rattle.table.proofs.Agreeing.{word_same, task_same, use_same, place_same}
use Rattle.table.proofs.Walked.{step_on, step_kept}
use Rattle.table.proofs.Accepted.{Seen, seen_start, seen_task, seen_use}

-- ---- where a walk can stand

module _ (s : List ℕ) where
  -- before the end of the largest table
  seen_most : (w : Walk) → Seen s w → w.at ≤ 4736
  seen_most w g = omega (arith, g.place, g.tasks_most, g.uses_most, g.user_most, g.least_most)

  -- and on from there
  seen_next : (w n : Walk) → Seen s w → step_at s w ≡ Ok (On n) → Seen s n
  seen_next w n g e = step_kept s (Seen s) (seen_task s) (seen_use s) w g n e

  -- so records enough to pass it are enough
  fuel_same : (k j : ℕ) (w : Walk) → Seen s w → 4736 < w.at + k → 4736 < w.at + j → read_from k s w ≡ read_from j s w
  unfolding read_from
  fuel_same zero j w g h i = absurd (omega (arith, seen_most w g))
  fuel_same (suc k) zero w g h i = absurd (omega (arith, seen_most w g))
  fuel_same (suc k) (suc j) w g h i = go (step_at s w) refl (λ n q l. fuel_same k j n q l)
    where
      go : (t : Result Step Refusal) → step_at s w ≡ t
          → ((n : Walk) → Seen s n → 4736 < n.at + k → 4736 < n.at + j → read_from k s n ≡ read_from j s n)
          → onward t (read_from k s) ≡ onward t (read_from j s)
      go (Ok (On n)) e more = let on = step_on s w n e in more n (seen_next w n g e) (omega arith) (omega arith)
      go (Ok (Done a)) e more = refl
      go (Err a) e more = refl

-- ---- two inputs with one front

module _ (s r : List ℕ) (same : (i : ℕ) → i < 5000 → get_or r i 0 ≡ get_or s i 0) (long : 5000 ≤ length s) (other : 5000 ≤ length r) where
  module _ (w : Walk) (g : Seen s w) where
    -- the walk's place, well before both ends
    near : w.at ≤ 4736
    near = seen_most s w g

    -- what a use of the task at place i, whose run time is c, leads to
    abbrev use_turn : Use → ℕ → ℕ → Result Walk Refusal
    use_turn u i c = ruled (use_rule w u i c) w.at (with_use w u i)

    user_same : user_at r w ≡ user_at s w
    user_same =
        ap (λ u. place_from (w.tasks - w.user) r w.user u.priority) (use_same s r 5000 same w.at (omega (arith, near)))
        ∙ place_same s r 5000 same (w.tasks - w.user) w.user (use_at s w.at).priority (omega (arith, g.tasks_most, g.user_most))

    user_most : user_at s w ≤ 100
    user_most =
        omega (arith, (place_within (w.tasks - w.user) s w.user (use_at s w.at).priority).1, g.tasks_most, g.user_most)

    -- a record that is all there is ruled
    task_ruled : (x : List ℕ) → 20 ≤ length x - w.at
        → task_step x w ≡ ruled (task_rule w (task_at x w.at)) w.at (with_task w (task_at x w.at))
    unfolding task_step
    task_ruled x h = rw (le-ltb (length x - w.at) 20 h)

    use_ruled : (x : List ℕ) → 8 ≤ length x - w.at → use_step x w ≡ use_turn (use_at x w.at) (user_at x w) (word_at x (20 * user_at x w + 4))
    unfolding use_step
    use_ruled x h = rw (le-ltb (length x - w.at) 8 h)

    task_step_lem : task_step r w ≡ task_step s w
    task_step_lem =
        task_ruled r (omega (arith, near))
        ∙ ap (λ t. ruled (task_rule w t) w.at (with_task w t)) (task_same s r 5000 same w.at (omega (arith, near)))
        ∙ sym (task_ruled s (omega (arith, near)))

    use_step_lem : use_step r w ≡ use_step s w
    use_step_lem =
        use_ruled r (omega (arith, near))
        ∙ ap (λ u. use_turn u (user_at r w) (word_at r (20 * user_at r w + 4))) (use_same s r 5000 same w.at (omega (arith, near)))
        ∙ ap (λ i. use_turn (use_at s w.at) i (word_at r (20 * i + 4))) user_same
        ∙ ap (use_turn (use_at s w.at) (user_at s w)) (word_same s r 5000 same (20 * user_at s w + 4) (omega (arith, user_most)))
        ∙ sym (use_ruled s (omega (arith, near)))

    end_step_lem : end_step r w ≡ end_step s w
    unfolding end_step
    end_step_lem = rw (lt-ltb 1 (length r - w.at) (omega (arith, near)), lt-ltb 1 (length s - w.at) (omega (arith, near)))

    of_same : (k : Option Kind) → step_of k r w ≡ step_of k s w
    of_same (Some kinds.Task) = ap going task_step_lem
    of_same (Some kinds.Use) = ap going use_step_lem
    of_same (Some kinds.End) = ap ending end_step_lem
    of_same None = refl

    step_same : step_at r w ≡ step_at s w
    unfolding step_at
    step_same =
        rw (lt-leb (length r) w.at (omega (arith, near)), lt-leb (length s) w.at (omega (arith, near)), same w.at (omega (arith, near)))
        (of_same (kind_of (get_or s w.at 0)))

  read_same : (k : ℕ) (w : Walk) → Seen s w → read_from k r w ≡ read_from k s w
  unfolding read_from
  read_same zero w g = refl
  read_same (suc k) w g = ap (λ t. onward t (read_from k r)) (step_same w g) ∙ go (step_at s w) refl (read_same k)
    where
      go : (t : Result Step Refusal) → step_at s w ≡ t → ((n : Walk) → Seen s n → read_from k r n ≡ read_from k s n)
          → onward t (read_from k r) ≡ onward t (read_from k s)
      go (Ok (On n)) e more = more n (seen_next s w n g e)
      go (Ok (Done a)) e more = refl
      go (Err a) e more = refl

-- ---- the front of an input

-- a front of 8,192 bytes or more decides
pub front_decides : (s : List ℕ) (n : ℕ) → 8192 ≤ n → read_table (take n s) ≡ read_table s
front_decides s n h = go (dec_lt n (length s))
  where
    front_at : (i : ℕ) → i < length (take n s) → get_or (take n s) i 0 ≡ get_or s i 0
    front_at i lt =
        sym (get_or-append (take n s) (drop n s) 0 i lt) ∙ ap (λ (l : List ℕ). get_or l i 0) (take-append-drop n s)

    go : Dec (n < length s) → read_table (take n s) ≡ read_table s
    go (yes lt) =
        let e : length (take n s) ≡ n = length-take n s ∙ omega arith in
        read_same s (take n s) (λ i q. front_at i (omega arith)) (omega arith) (omega arith) (length (take n s) + 1) start_walk (seen_start s)
        ∙ fuel_same s (length (take n s) + 1) (length s + 1) start_walk (seen_start s) (omega arith) (omega arith)
    go (no ge) = ap (λ (l : List ℕ). read_table l) (take_all n s (omega arith))
