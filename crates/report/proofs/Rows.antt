-- What a report leaves in the lent rows. A refusal leaves every row. Where the rows are enough and the total is within the allowance, each task's row
-- has its priority, its answer as the verdict lets it be told, and its deadline, and the later rows are as before.
use Prim.Native.Nat.{ℕ, ◌+◌, ◌-◌, ◌≤◌, ◌<◌}
use Rattle.std.specs.Prelude.{None, Ok, Err}
use mathlib.Core.Path.{◌≡◌, refl, ap, ◌∙◌}
use mathlib.Core.Bool.{Bool, true, false, cond}
use mathlib.Core.List.{List}
use native.Mathlib.Omega.{arith}
use lib.Dec.{ltb}
use lib.ListN.{length, get_or, drop, get_or-append}
use lib.Seq.{get_or-append-add, get_or-drop}
use borrow.Author.Tests.{lt-ltb, le-ltb}
use Rattle.searches.specs.Indexed.{every}
use Rattle.searches.proofs.Indexed.{length_every, every_at}
use Rattle.table.specs.declared.Refusal.{Refusal}
use Rattle.table.specs.declared.Shape.{Shape}
use Rattle.table.specs.declared.Why.TheVariants.{Rows, Allowance}
use Rattle.table.specs.Reading.{Reading, read_table}
use Rattle.table.specs.WellFormed.{task_of}
use Rattle.rounds.specs.Rounds.{answer}
use Rattle.rounds.specs.Allowance.{Allowed, within, beyond, allowed}
use Rattle.rounds.proofs.AllowanceLaws.{within_allowed, beyond_refused}
use Rattle.analysis.specs.declared.Analysis.{Analysis}
use Rattle.analysis.specs.Analysing.{own_system, verdict_of, allowed_as, analysed_as, analysed}
use Rattle.analysis.specs.Answering.{told_of}
use Rattle.analysis.specs.Refusing.{refusal_number}
use Rattle.analysis.proofs.Replies.{total_of, each_told}
use Rattle.report.specs.declared.Reported.{Reported}
use Rattle.report.specs.declared.Row.{Row}
use Rattle.report.specs.Reporting.{row_of, task_row, refused_by, summary, reported_as, reported, rows_after}

-- a refusal tells of no tasks
refused_none : (s : List ℕ) (allowance room : ℕ) → (refusal_number (reported s allowance room).refusal ≡ 0 → ⊥) → (reported s allowance room).tasks ≡ 0
unfolding reported_as analysed_as
refused_none s allowance room n = go (read_table s) refl n
  where
    spent : (h : Shape) (a : Allowed) → (refusal_number (allowed_as s h a).refusal ≡ 0 → ⊥) → (allowed_as s h a).tasks ≡ 0
    spent h (within final) k = absurd (k refl)
    spent h beyond k = refl

    short : (h : Shape) (t : Bool) → read_table s ≡ Ok h
        → (refusal_number (cond t (refused_by (record { why = Rows; place = 0 })) (summary (analysed s allowance))).refusal ≡ 0 → ⊥)
        → (cond t (refused_by (record { why = Rows; place = 0 })) (summary (analysed s allowance))).tasks ≡ 0
    short h true e k = refl
    short h false e k =
        let same : analysed s allowance ≡ analysed_as (Ok h) s allowance = ap (λ (r : Reading). analysed_as r s allowance) e in
        ap (λ (a : Analysis). a.tasks) same
        ∙ spent h (allowed (own_system s h) allowance) (λ z. k (ap (λ (a : Analysis). refusal_number a.refusal) same ∙ z))

    go : (r : Reading) → read_table s ≡ r → (refusal_number (reported_as r s allowance room).refusal ≡ 0 → ⊥) → (reported_as r s allowance room).tasks ≡ 0
    go (Err f) e k = refl
    go (Ok h) e k = short h (ltb room h.tasks) e k

module _ (s : List ℕ) (allowance : ℕ) (rows : List Row) where
  -- the reply, where these rows are lent
  abbrev reply : Reported
  reply = reported s allowance (length rows)

  -- a refusal leaves every row as it was
  pub refused_leaves : (refusal_number reply.refusal ≡ 0 → ⊥) → rows_after s allowance rows ≡ rows
  unfolding every
  refused_leaves n = rw (refused_none s allowance (length rows) n)

  -- a row that stands for a task
  row_at : (i : ℕ) (d : Row) → i < reply.tasks → get_or (rows_after s allowance rows) i d ≡ task_row s (analysed s allowance) i
  row_at i d l =
      let row : ℕ → Row = task_row s (analysed s allowance) in
      get_or-append (every row reply.tasks 0) (drop reply.tasks rows) d i (omega (arith, length_every row reply.tasks 0))
      ∙ every_at row reply.tasks i d l

  -- a row past the tasks is as it was
  pub later_row : (j : ℕ) (d : Row) → reply.tasks ≤ j → get_or (rows_after s allowance rows) j d ≡ get_or rows j d
  later_row j d l =
      let row : ℕ → Row = task_row s (analysed s allowance) in
      let there : j ≡ length (every row reply.tasks 0) + (j - reply.tasks) = omega (arith, length_every row reply.tasks 0) in
      let back : reply.tasks + (j - reply.tasks) ≡ j = omega arith in
      ap (λ (k : ℕ). get_or (rows_after s allowance rows) k d) there
      ∙ get_or-append-add (every row reply.tasks 0) (drop reply.tasks rows) (j - reply.tasks) d
      ∙ get_or-drop reply.tasks rows (j - reply.tasks) d ∙ ap (λ (k : ℕ). get_or rows k d) back

  -- bytes that the reader refuses: its number and its place
  pub unread_refused : (f : Refusal) → read_table s ≡ Err f → reply ≡ refused_by f
  unfolding reported_as
  unread_refused f read = ap (λ (r : Reading). reported_as r s allowance (length rows)) read

  module _ (h : Shape) (read : read_table s ≡ Ok h) where
    -- fewer lent rows than tasks: 9, whatever the allowance
    pub short_refused : length rows < h.tasks → reply ≡ refused_by (record { why = Rows; place = 0 })
    unfolding reported_as
    short_refused l = ap (λ (r : Reading). reported_as r s allowance (length rows)) read ∙ rw (lt-ltb (length rows) h.tasks l)

    module _ (enough : h.tasks ≤ length rows) where
      -- what the analysis answers
      reply_is : reply ≡ summary (analysed_as (Ok h) s allowance)
      unfolding reported_as
      reply_is =
          ap (λ (r : Reading). reported_as r s allowance (length rows)) read ∙ rw (le-ltb (length rows) h.tasks enough)
          (ap (λ (r : Reading). summary (analysed_as r s allowance)) read)

      -- then a total above the allowance: 8
      pub spent_refused : allowance < total_of s h → reply ≡ refused_by (record { why = Allowance; place = 0 })
      unfolding analysed_as
      spent_refused l = reply_is ∙ rw (beyond_refused (own_system s h) allowance l)

      module _ (allows : total_of s h ≤ allowance) where
        -- the table's tasks, its verdict and its total, and no refusal
        abbrev whole : Reported
        whole = record { refusal = None; tasks = h.tasks; verdict = verdict_of s h; evaluations = total_of s h }

        pub told_whole : reply ≡ whole
        unfolding analysed_as
        told_whole = reply_is ∙ rw (within_allowed (own_system s h) allowance allows)

        -- and the row of each task
        pub task_row_lem : (i : ℕ) (d : Row) → i < h.tasks
            → get_or (rows_after s allowance rows) i d ≡ row_of (task_of s i) (told_of (verdict_of s h) (answer (own_system s h) i))
        task_row_lem i d l =
            row_at i d (omega (arith, ap (λ (r : Reported). r.tasks) told_whole, l))
            ∙ ap (row_of (task_of s i)) (each_told s h read allowance allows i l)
