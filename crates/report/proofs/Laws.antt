-- What is found of bytes is what the report is to say: of a refusal, and of an accepted table.
use Prim.Native.Nat.{ℕ, suc, ◌+◌, ◌≤◌, ◌<◌}
use Rattle.std.specs.Prelude.{Ok, Err}
use mathlib.Core.Path.{◌≡◌, sym, ap, ◌∙◌}
use mathlib.Core.List.{List, ◌++◌, append_assoc}
use native.Mathlib.Numerals.{add-one}
use native.Mathlib.Omega.{arith}
use lib.ListN.{get_or, length, set, drop}
use lib.Seq.{take_at, drop-cons, set_at}
use borrow.Author.Tests.{lt-ltb, le-ltb}
use Rattle.searches.specs.Indexed.{every}
use Rattle.searches.proofs.Indexed.{length_every, every_more}
use Rattle.table.specs.declared.Refusal.{Refusal}
use Rattle.table.specs.declared.Shape.{Shape}
use Rattle.table.specs.declared.Why.TheVariants.{Rows}
use Rattle.table.specs.Reading.{Reading, read_table}
use Rattle.rounds.specs.Allowance.{Allowed, within, beyond, allowed}
use Rattle.analysis.specs.declared.Analysis.{Analysis}
use Rattle.analysis.specs.Analysing.{own_system, allowed_as, analysed_as, analysed}
use Rattle.analysis.proofs.Replies.{tasks_most}
use Rattle.report.specs.declared.Reported.{Reported}
use Rattle.report.specs.declared.Row.{Row}
use Rattle.report.specs.Reporting.{task_row, refused_by, summary, reported_as, reported}
use Rattle.report.specs.Finding.{Finds}

-- one row more is put in front
pub rows_more : (f : ℕ → Row) (old : List Row) (i : ℕ) → i < length old → set (every f i 0 ++ drop i old) i (f i) ≡ every f (i + 1) 0 ++ drop (i + 1) old
rows_more f old i l =
    rw (every_more f i, append_assoc, drop-cons old i (f i) l, add-one)
    (set_at (every f i 0) (get_or old i (f i)) (drop (suc i) old) (f i) i (length_every f i 0))

-- a refusal that the definition gives
refused_finds : (s : List ℕ) (allowance room : ℕ) (r : Reported) (rows : List Row) (e : Refusal) → r ≡ refused_by e
    → reported s allowance room ≡ refused_by e → Finds s allowance room r rows
unfolding every
refused_finds s allowance room r rows e q p =
    let none : r.tasks ≡ 0 = ap (λ (x : Reported). x.tasks) q in
    record { reply = q ∙ sym p; rows_are = rw none; tasks_most = omega arith; room_enough = omega arith }

-- bytes that the reader refuses
pub unread_finds : (s : List ℕ) (allowance room : ℕ) (r : Reported) (rows : List Row) (e : Refusal) → read_table s ≡ Err e → r ≡ refused_by e
    → Finds s allowance room r rows
unfolding reported_as
unread_finds s allowance room r rows e read q =
    refused_finds s allowance room r rows e q (ap (λ (x : Reading). reported_as x s allowance room) read)

module _ (s : List ℕ) (h : Shape) (read : read_table s ≡ Ok h) (allowance room : ℕ) (r : Reported) (rows : List Row) where
  -- fewer lent rows than tasks
  pub short_finds : room < h.tasks → r ≡ refused_by (record { why = Rows; place = 0 }) → Finds s allowance room r rows
  unfolding reported_as
  short_finds l q =
      refused_finds s allowance room r rows (record { why = Rows; place = 0 }) q
      (ap (λ (x : Reading). reported_as x s allowance room) read ∙ rw (lt-ltb room h.tasks l))

  -- the analysis tells of the table's tasks, or of none
  tasks_within : (analysed s allowance).tasks ≤ h.tasks
  unfolding analysed_as
  tasks_within = omega (arith, ap (λ (x : Reading). (analysed_as x s allowance).tasks) read, go (allowed (own_system s h) allowance))
    where
      go : (a : Allowed) → (allowed_as s h a).tasks ≤ h.tasks
      go (within final) = omega arith
      go beyond = omega arith

  -- an analysis with the rows of its tasks
  pub analysed_finds : h.tasks ≤ room → (a : Analysis) → a ≡ analysed s allowance → r ≡ summary a → (rest : List Row)
      → rows ≡ every (task_row s a) a.tasks 0 ++ rest → Finds s allowance room r rows
  unfolding reported_as
  analysed_finds l a q p rest e =
      let n : r.tasks ≡ a.tasks = ap (λ (x : Reported). x.tasks) p in
      let m : a.tasks ≡ (analysed s allowance).tasks = ap (λ (x : Analysis). x.tasks) q in
      record {
        reply = p ∙ ap summary q ∙ sym (ap (λ (x : Reading). reported_as x s allowance room) read ∙ rw (le-ltb room h.tasks l));
        rows_are =
            rw (n, e) (take_at (every (task_row s a) a.tasks 0) rest a.tasks (length_every (task_row s a) a.tasks 0))
            ∙ ap (λ (x : Analysis). every (task_row s x) r.tasks 0) q;
        tasks_most = omega (arith, n, m, tasks_most s allowance);
        room_enough = omega (arith, n, m, tasks_within, l);
      }
