-- Where the reader stands after the records so far: on a table that goes on, as on one that ends there.
use Prim.Native.Nat.{ℕ, zero, suc, ◌+◌, ◌*◌, ◌-◌, ◌≤◌, ◌<◌}
use mathlib.Core.Path.{◌≡◌, refl, sym, ap, subst, ◌∙◌}
use mathlib.Core.List.{List, [], ◌∷◌, ◌++◌}
use native.Mathlib.Omega.{arith}
use native.Mathlib.Decide.{dec_lt}
use lib.ListN.{get_or, length, length-append, get_or-append}
use Rattle.table.specs.declared.Shape.{Shape}
use Rattle.table.specs.declared.Task.{Task}
use Rattle.table.specs.declared.Use.{Use}
use Rattle.std.specs.Prelude.{Result, Ok}
use Rattle.table.specs.declared.Refusal.{Refusal}
use Rattle.table.specs.declared.walk.Walk.{Walk}
use Rattle.table.specs.declared.walk.Step.{Step}
use Rattle.table.specs.declared.walk.Step.TheVariants.{On}
use Rattle.table.specs.Fields.{word_at, task_at, use_at}
use Rattle.table.specs.Rules.{Ruling, stands, task_rule, use_rule, place_from, with_task, with_use}
use Rattle.table.specs.Reading.{start_walk, ruled, going, step_at, user_at, onward, read_from, read_table}
use Rattle.table.specs.WellFormed.{task_of, use_of, user_of}
use Rattle.table.proofs.Laws.{place_within}
use Rattle.table.proofs.Accepted.{Seen, seen_start, seen_task, seen_use, user_found}
use Rattle.table.proofs.Agreeing.{word_same, task_same, use_same, place_same}
use Rattle.table.proofs.Told.{task_stands, use_stands}
use Rattle.table.proofs.Walked.{task_turn, use_turn_lem, accepted}

-- ---- what the walk remembers

-- the last task's priority, or one above all; the last use's task and one above its resource, or 0 both
pub record Marks (s : List ℕ) (w : Walk) : Type 0 where
  pub none : w.tasks ≡ 0 → 256 ≤ w.last
  pub last : 0 < w.tasks → (task_of s (w.tasks - 1)).priority ≡ w.last
  pub unused : w.uses ≡ 0 → (w.user ≡ 0) × (w.least ≡ 0)
  pub user : 0 < w.uses → user_of s w.tasks (20 * w.tasks) (w.uses - 1) ≡ w.user
  pub least : 0 < w.uses → (use_of s (20 * w.tasks) (w.uses - 1)).resource + 1 ≡ w.least

module _ (s : List ℕ) where
  -- before the first record
  marks_start : Marks s start_walk
  marks_start = record {
    none = λ h. omega arith;
    last = λ h. absurd (omega arith);
    unused = λ h. (refl, refl);
    user = λ h. absurd (omega arith);
    least = λ h. absurd (omega arith);
  }

  -- past a task
  marks_task : (w : Walk) → Seen s w → Marks s w → task_rule w (task_at s w.at) ≡ stands → Marks s (with_task w (task_at s w.at))
  marks_task w g m e =
      let first = (task_stands w (task_at s w.at) e).first in
      let here : 20 * (w.tasks + 1 - 1) ≡ w.at = omega (arith, g.place) in
      record {
        none = λ h. absurd (omega arith);
        last = λ h. ap (λ (a : ℕ). (task_at s a).priority) here;
        unused = m.unused;
        user = λ h. absurd (omega arith);
        least = λ h. absurd (omega arith);
      }

  -- past a use
  marks_use : (w : Walk) → Seen s w → Marks s w → use_rule w (use_at s w.at) (user_at s w) (word_at s (20 * user_at s w + 4)) ≡ stands
      → Marks s (with_use w (use_at s w.at) (user_at s w))
  marks_use w g m e =
      let owned = (use_stands w (use_at s w.at) (user_at s w) (word_at s (20 * user_at s w + 4)) e).owned in
      let here : 20 * w.tasks + 8 * (w.uses + 1 - 1) ≡ w.at = omega (arith, g.place) in
      record {
        none = m.none;
        last = m.last;
        unused = λ h. absurd (omega arith);
        user = λ h. ap (λ (a : ℕ). place_from w.tasks s 0 (use_at s a).priority) here ∙ user_found s w g owned;
        least = λ h. ap (λ (a : ℕ). (use_at s a).resource + 1) here;
      }

-- ---- the walk over a table that goes on

-- what is left to read from here is what the whole table is read as
pub record Going (s : List ℕ) (w : Walk) : Type 0 where
  pub fuel : ℕ
  pub enough : length s < w.at + fuel
  pub same : read_from fuel s w ≡ read_table s

-- a step further
pub going_on : (s : List ℕ) (w n : Walk) → w.at < length s → w.at < n.at → step_at s w ≡ Ok (On n) → Going s w → Going s n
unfolding read_from
going_on s w n l on st g = go g.fuel g.enough g.same
  where
    go : (k : ℕ) → length s < w.at + k → read_from k s w ≡ read_table s → Going s n
    go zero h e = absurd (omega arith)
    go (suc k) h e = record { fuel = k; enough = omega arith; same = ap (λ (t : Result Step Refusal). onward t (read_from k s)) (sym st) ∙ e }

module _ (s : List ℕ) (w : Walk) where
  -- the last use's task is one of the tasks
  pub user_few : Seen s w → Marks s w → w.user ≤ w.tasks
  user_few g m = go (dec_lt 0 w.uses)
    where
      go : Dec (0 < w.uses) → w.user ≤ w.tasks
      go (yes h) = omega (arith, m.user h, g.owned (w.uses - 1) (omega arith))
      go (no h) = omega (arith, (m.unused (omega arith)).0)

-- two tables with one front: a step within it is the same
module _ (s x : List ℕ) (end : ℕ) (same : (i : ℕ) → i < end → get_or x i 0 ≡ get_or s i 0) (w : Walk) where
  -- the task of a use
  pub user_same : w.at + 8 ≤ end → 20 * w.tasks ≤ w.at → w.user ≤ w.tasks → user_at x w ≡ user_at s w
  user_same h l m =
      ap (λ (u : Use). place_from (w.tasks - w.user) x w.user u.priority) (use_same s x end same w.at h)
      ∙ place_same s x end same (w.tasks - w.user) w.user (use_at s w.at).priority (omega arith)

  -- what the rule says of a use
  pub use_rule_same : w.at + 8 ≤ end → 20 * w.tasks ≤ w.at → w.user ≤ w.tasks
      → use_rule w (use_at x w.at) (user_at x w) (word_at x (20 * user_at x w + 4)) ≡ use_rule w (use_at s w.at) (user_at s w) (word_at s (20 * user_at s w + 4))
  use_rule_same h l m =
      let most = (place_within (w.tasks - w.user) s w.user (use_at s w.at).priority).1 in
      ap (λ (u : Use). use_rule w u (user_at x w) (word_at x (20 * user_at x w + 4))) (use_same s x end same w.at h)
      ∙ ap (λ (i : ℕ). use_rule w (use_at s w.at) i (word_at x (20 * i + 4))) (user_same h l m)
      ∙ ap (use_rule w (use_at s w.at) (user_at s w)) (word_same s x end same (20 * user_at s w + 4) (omega arith))

  -- where the walk is past a use
  pub past_use_same : w.at + 8 ≤ end → 20 * w.tasks ≤ w.at → w.user ≤ w.tasks
      → with_use w (use_at x w.at) (user_at x w) ≡ with_use w (use_at s w.at) (user_at s w)
  past_use_same h l m =
      ap (λ (u : Use). with_use w u (user_at x w)) (use_same s x end same w.at h) ∙ ap (with_use w (use_at s w.at)) (user_same h l m)

-- ---- after the records so far

-- the reader at the end of the records, in a table that has more after them
pub record Reached (records more : List ℕ) (n : ℕ) : Type 0 where
  pub walk : Walk
  pub at : walk.at ≡ length records
  pub tasks : walk.tasks ≡ n
  pub seen : Seen (records ++ more) walk
  pub marks : Marks (records ++ more) walk
  pub going : Going ((records ++ more) ++ 3 ∷ []) walk

-- before the first record
pub reached_start : (more : List ℕ) → Reached [] more 0
reached_start more = record {
  walk = start_walk;
  at = refl;
  tasks = refl;
  seen = seen_start more;
  marks = marks_start more;
  going = record { fuel = length (more ++ 3 ∷ []) + 1; enough = omega arith; same = refl };
}

module _ (records more : List ℕ) where
  -- a byte of the records is the same with more after them
  front_all : (i : ℕ) → i < length records → get_or (records ++ more) i 0 ≡ get_or (records ++ 3 ∷ []) i 0
  front_all i h = get_or-append records more 0 i h ∙ sym (get_or-append records (3 ∷ []) 0 i h)

  -- and with an end
  front_whole : (i : ℕ) → i < length records → get_or ((records ++ more) ++ 3 ∷ []) i 0 ≡ get_or (records ++ 3 ∷ []) i 0
  front_whole i h = get_or-append (records ++ more) (3 ∷ []) 0 i (omega (arith, length-append records more)) ∙ front_all i h

  -- what is so of each walk within the records
  abbrev Within : Walk → Type 0
  Within w = w.at ≤ length records
      → (Seen (records ++ more) w) × (Marks (records ++ more) w) × (Going ((records ++ more) ++ 3 ∷ []) w)

  -- past a task
  within_task : (w : Walk) → Within w → get_or (records ++ 3 ∷ []) w.at 0 ≡ 1 → w.at + 20 ≤ length (records ++ 3 ∷ [])
      → task_rule w (task_at (records ++ 3 ∷ []) w.at) ≡ stands → Within (with_task w (task_at (records ++ 3 ∷ []) w.at))
  within_task w p k room e l =
      let s = records ++ 3 ∷ [] in
      let all = records ++ more in
      let whole = all ++ 3 ∷ [] in
      let q = p (omega arith) in
      let a = length-append records more in
      let b = length-append all (3 ∷ []) in
      let ta : task_at all w.at ≡ task_at s w.at = task_same s all (length records) front_all w.at l in
      let tw : task_at whole w.at ≡ task_at s w.at = task_same s whole (length records) front_whole w.at l in
      let rule : task_rule w (task_at all w.at) ≡ stands = ap (task_rule w) ta ∙ e in
      let step : step_at whole w ≡ Ok (On (with_task w (task_at s w.at))) =
      task_turn whole w (front_whole w.at (omega arith) ∙ k) (omega arith)
      ∙ ap (λ (t : Task). going (ruled (task_rule w t) w.at (with_task w t))) tw ∙ rw e in (
        subst (λ (t : Task). Seen all (with_task w t)) ta (seen_task all w q.0 (front_all w.at (omega arith) ∙ k) (omega arith) rule),
        subst (λ (t : Task). Marks all (with_task w t)) ta (marks_task all w q.0 q.1 rule),
        going_on whole w _ (omega arith) (omega arith) step q.2,
      )

  -- past a use
  within_use : (w : Walk) → Within w → get_or (records ++ 3 ∷ []) w.at 0 ≡ 2 → w.at + 8 ≤ length (records ++ 3 ∷ [])
      → use_rule w (use_at (records ++ 3 ∷ []) w.at) (user_at (records ++ 3 ∷ []) w) (word_at (records ++ 3 ∷ []) (20 * user_at (records ++ 3 ∷ []) w + 4)) ≡ stands
      → Within (with_use w (use_at (records ++ 3 ∷ []) w.at) (user_at (records ++ 3 ∷ []) w))
  within_use w p k room e l =
      let s = records ++ 3 ∷ [] in
      let all = records ++ more in
      let whole = all ++ 3 ∷ [] in
      let q = p (omega arith) in
      let a = length-append records more in
      let b = length-append all (3 ∷ []) in
      let few = user_few all w q.0 q.1 in
      let before : 20 * w.tasks ≤ w.at = omega (arith, q.0.place) in
      let rule = use_rule_same s all (length records) front_all w l before few ∙ e in
      let past = past_use_same s all (length records) front_all w l before few in
      let step : step_at whole w ≡ Ok (On (with_use w (use_at s w.at) (user_at s w))) =
      use_turn_lem whole w (front_whole w.at (omega arith) ∙ k) (omega arith)
      ∙ ap (λ (k : Ruling). going (ruled k w.at (with_use w (use_at whole w.at) (user_at whole w))))
      (use_rule_same s whole (length records) front_whole w l before few ∙ e)
      ∙ ap (λ (n : Walk). Ok (On n)) (past_use_same s whole (length records) front_whole w l before few) in (
        subst (Seen all) past (seen_use all w q.0 (front_all w.at (omega arith) ∙ k) (omega arith) rule),
        subst (Marks all) past (marks_use all w q.0 q.1 rule),
        going_on whole w _ (omega arith) (omega arith) step q.2,
      )

  -- records that are accepted with an end
  pub reached : (h : Shape) → read_table (records ++ 3 ∷ []) ≡ Ok h → Reached records more h.tasks
  reached h e =
      let r = accepted (records ++ 3 ∷ []) Within within_task within_use
      (λ l. (
        seen_start (records ++ more),
        marks_start (records ++ more),
        record { fuel = length ((records ++ more) ++ 3 ∷ []) + 1; enough = omega arith; same = refl },
      )) h e in
      let here : r.walk.at ≡ length records = omega (arith, r.last, length-append records (3 ∷ [])) in
      let q = r.kept (omega arith) in
      record {
        walk = r.walk;
        at = here;
        tasks = ap (λ (x : Shape). x.tasks) (sym r.shape);
        seen = q.0;
        marks = q.1;
        going = q.2;
      }
