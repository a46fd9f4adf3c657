-- Demand 1, fixed replies: every table, call and job number has one defined reply. A refused call changes nothing; a call under any number but the
-- entitled job's is refused; an old number can match again only after 65,536 releases.
use Rattle.std.specs.Prelude.{ℕ, suc, ◌<◌, ◌≡◌, ◌↔◌, List, ◌++◌, get_or, length, drop, Result, Option}
use Rattle.std.proofs.Common.{sym, ◌∙◌}
use Rattle.table.specs.declared.Shape.{Shape}
use Rattle.table.specs.declared.Refusal.{Refusal}
use Rattle.table.specs.declared.Why.{Why}
use Rattle.table.specs.declared.numbered.Numbered.{Numbered}
use Rattle.table.specs.Reading.{Reading}
use Rattle.table.specs.Fields.{word_at, no_task, no_use, task_at, use_at}
use Rattle.table.specs.Replies as table-replies
use Rattle.table.specs.Reading.{read_table}
use Rattle.table.specs.Records.{record_of}
use Rattle.held.specs.declared.Table.{Table}
use Rattle.held.specs.Replies as held-replies
use Rattle.held.specs.Loading.{load_table}
use Rattle.held.specs.Writing.{write_table, written}
use Rattle.analysis.specs.declared.Analysis.{Analysis}
use Rattle.analysis.specs.Analysing.{analysed}
use Rattle.analysis.specs.Answering.{answer_at}
use Rattle.report.specs.declared.Row.{Row}
use Rattle.report.specs.Reporting.{reported, rows_after}
use Rattle.words.specs.Writing.{Put}
use Rattle.notation.specs.declared.Fault.{Fault}
use Rattle.notation.specs.declared.causes.Cause.{Cause}
use Rattle.notation.specs.declared.columns.Column.{Column}
use Rattle.notation.specs.Causes.{cause_number, cause_of}
use Rattle.notation.specs.Columns.{column_number, column_of, name}
use Rattle.notation.specs.Numbered.{packing_of}
use Rattle.notation.specs.Packing.{pack_into}
use Rattle.notation.proofs.Views.{packing_one}
use Rattle.protocol.specs.Tasks.{priority}
use Rattle.protocol.specs.State.{serial}
use Rattle.protocol.specs.Running.{in_force}
use Rattle.protocol.specs.Checks.{Call}
use Rattle.protocol.specs.Trace.{released}
use Rattle.protocol.specs.Numbers.{Entitled, releases, Wraps}
use Rattle.arrays.specs.declared.denial.Denial.{Denial}
use Rattle.arrays.specs.Denials.{denial_number, refusal_number}
use Rattle.scheduler.specs.declared.Scheduler.{Scheduler}
use Rattle.scheduler.specs.declared.Reply.{Reply}
use Rattle.scheduler.specs.View.{Sized, table_of, state_of}
use Rattle.scheduler.specs.Replies.{replied}
use Rattle.scheduler.specs.Fresh.{set_up, fresh_of}
use Rattle.scheduler.specs.Driven.{Driven, told}
use Rattle.scheduler.proofs.Theorems.{refused_same, calls_entitled, calls_number_again}

-- ---- one defined reply

-- of all that equals d, any two are equal: a promise of this form allows one reply
abbrev pub One : {A : Type 0} → A → Type 0
One {A} d = (r q : A) → r ≡ d → q ≡ d → r ≡ q

one : {A : Type 0} (d : A) → One d
one d r q e f = e ∙ sym f

-- What a host may call, by the definition that it is promised by: bytes, tables, states and numbers are any.
pub record OneReply : Type 0 where
  -- table::read, number and place of its answer, Why::number and at, and what a Refusal prints
  pub reads : (s : List ℕ) → One (read_table s)
  pub read_numbers : (r : Reading) → One (table-replies.number_of r)
  pub read_places : (r : Reading) → One (table-replies.place_of r)
  pub why_numbers : (y : Why) → One (table-replies.why_number y)
  pub whys_at : (y : Why) (place : ℕ) → One {A = Refusal} (record { why = y; place = place })
  pub refusals_print : (r : Refusal) → One (table-replies.refusal_text r)
  -- Refuses::number and place; a refusal by its number, whatever that is: what it is made of, what it prints, and number, place and count of an
  -- answer with it
  pub refused_numbers : (r : Refusal) → One (table-replies.why_number r.why)
  pub refused_places : (r : Refusal) → One r.place
  pub numbered_numbers : (r : Numbered) → One r.number
  pub numbered_places : (r : Numbered) → One r.place
  pub numbered : (r : Refusal) → One {A = Numbered} (record { number = table-replies.why_number r.why; place = r.place })
  pub numbered_print : (r : Numbered) → One (table-replies.told_text r.number r.place)
  pub told_numbers : (w : Result ℕ Numbered) → One (table-replies.told_of (λ r. r.number) w)
  pub told_places : (w : Result ℕ Numbered) → One (table-replies.told_of (λ r. r.place) w)
  pub told_counts : (w : Result ℕ Numbered) → One (held-replies.count_of w)
  -- table::record_of, byte_at, word_at, task_at, use_at, no_task, no_use
  pub records : (s : List ℕ) (p : ℕ) → One (record_of s p)
  pub bytes : (s : List ℕ) (at : ℕ) → One (get_or s at 0)
  pub words : (s : List ℕ) (at : ℕ) → One (word_at s at)
  pub tasks : (s : List ℕ) (at : ℕ) → One (task_at s at)
  pub uses : (s : List ℕ) (at : ℕ) → One (use_at s at)
  pub empty_task : One no_task
  pub empty_use : One no_use
  -- held::load; held::write and the buffer that it is lent; number, place and count of its answer
  pub loads : (s : List ℕ) → One (load_table s)
  pub writes : (t : Table) (room : ℕ) → One (write_table t room)
  pub writes_to : (t : Table) (out : List ℕ) → One (written t out)
  pub write_numbers : (w : Result ℕ Refusal) → One (table-replies.number_of w)
  pub write_places : (w : Result ℕ Refusal) → One (table-replies.place_of w)
  pub write_counts : (w : Result ℕ Refusal) → One (held-replies.count_of w)
  -- analysis::analyse, Analysis::answer
  pub analyses : (s : List ℕ) (allowance : ℕ) → One (analysed s allowance)
  pub answers : (a : Analysis) (place : ℕ) → One (answer_at a place)
  -- report::report and the rows that it is lent
  pub reports : (s : List ℕ) (allowance room : ℕ) → One (reported s allowance room)
  pub reports_to : (s : List ℕ) (allowance : ℕ) (rows : List Row) → One (rows_after s allowance rows)
  -- scheduler::set_up, the six calls on any state, as functions and as values; Denial::number and refusal_number
  pub sets_up : (s : List ℕ) → One (set_up s)
  pub calls : (s : Scheduler) (c : Call) → One (replied s c)
  pub denial_numbers : (d : Denial) → One (denial_number d)
  pub refusal_numbers : (r : Option Denial) → One (refusal_number r)
  -- notation::pack, and the buffer that it is lent; Cause::number and of, Column::name and of
  pub packs : (room : ℕ) (t : List ℕ) (r q : Result ℕ Fault) → packing_of r ≡ (pack_into room t).packing → packing_of q ≡ (pack_into room t).packing → r ≡ q
  pub cause_numbers : (c : Cause) → One (cause_number c)
  pub causes_of : (n : ℕ) → One (cause_of n)
  pub column_names : (c : Column) → One (name (column_number c))
  pub columns_of : (n : ℕ) → One (column_of n)
  pub packs_to : (t out : List ℕ) → One ((pack_into (length out) t).bytes ++ drop (length (pack_into (length out) t).bytes) out)
  -- lines::bounds_lines, notation::show, notation::fault_line, notation::pack_reply: each puts one text at the front of a buffer, and of any text
  -- that is put there the place after it and the whole buffer are fixed
  pub prints : (t out o₁ o₂ : List ℕ) (r₁ r₂ : ℕ) → Put out 0 t o₁ r₁ → Put out 0 t o₂ r₂ → (r₁ ≡ r₂) × (o₁ ≡ o₂)

pub one_reply : OneReply
one_reply = record {
  reads = λ s. one (read_table s);
  read_numbers = λ r. one (table-replies.number_of r);
  read_places = λ r. one (table-replies.place_of r);
  why_numbers = λ y. one (table-replies.why_number y);
  whys_at = λ y place. one {A = Refusal} (record { why = y; place = place });
  refusals_print = λ r. one (table-replies.refusal_text r);
  refused_numbers = λ r. one (table-replies.why_number r.why);
  refused_places = λ r. one r.place;
  numbered_numbers = λ r. one r.number;
  numbered_places = λ r. one r.place;
  numbered = λ r. one {A = Numbered} (record { number = table-replies.why_number r.why; place = r.place });
  numbered_print = λ r. one (table-replies.told_text r.number r.place);
  told_numbers = λ w. one (table-replies.told_of (λ r. r.number) w);
  told_places = λ w. one (table-replies.told_of (λ r. r.place) w);
  told_counts = λ w. one (held-replies.count_of w);
  records = λ s p. one (record_of s p);
  bytes = λ s at. one (get_or s at 0);
  words = λ s at. one (word_at s at);
  tasks = λ s at. one (task_at s at);
  uses = λ s at. one (use_at s at);
  empty_task = one no_task;
  empty_use = one no_use;
  loads = λ s. one (load_table s);
  writes = λ t room. one (write_table t room);
  writes_to = λ t out. one (written t out);
  write_numbers = λ w. one (table-replies.number_of w);
  write_places = λ w. one (table-replies.place_of w);
  write_counts = λ w. one (held-replies.count_of w);
  analyses = λ s allowance. one (analysed s allowance);
  answers = λ a place. one (answer_at a place);
  reports = λ s allowance room. one (reported s allowance room);
  reports_to = λ s allowance rows. one (rows_after s allowance rows);
  sets_up = λ s. one (set_up s);
  calls = λ s c. one (replied s c);
  denial_numbers = λ d. one (denial_number d);
  refusal_numbers = λ r. one (refusal_number r);
  packs = λ room t r q e f. packing_one r q (e ∙ sym f);
  cause_numbers = λ c. one (cause_number c);
  causes_of = λ n. one (cause_of n);
  column_names = λ c. one (name (column_number c));
  columns_of = λ n. one (column_of n);
  packs_to = λ t out. one ((pack_into (length out) t).bytes ++ drop (length (pack_into (length out) t).bytes) out);
  prints = λ t out o₁ o₂ r₁ r₂ p q. (p.end ∙ sym q.end, p.holds ∙ sym q.holds);
}

-- ---- refusals and numbers

-- a refused call leaves the scheduler as it is, whatever state was handed in
pub refused_changes_nothing : {s : Scheduler} → Sized s → (c : Call) → (refusal_number (replied s c).refusal ≡ 0 → ⊥) → (replied s c).state ≡ s
refused_changes_nothing = refused_same

module _ {bytes : List ℕ} {h : Shape} {calls : ℕ → Call} {S : ℕ → Scheduler} {R : ℕ → Reply} (D : Driven bytes h calls S R) where
  -- an accepted call was made under the entitled job's number
  pub only_entitled : (k : ℕ) → refusal_number (R k).refusal ≡ 0 → Entitled in_force (table_of (S k)) (state_of (S k)) (calls k)
  only_entitled = calls_entitled D

  -- two releases of a task give one number exactly when the releases of the task between them are a multiple of 65,536
  pub number_comes_back : (i a b : ℕ) → i < (table_of (fresh_of bytes h)).size
      → told (R a) (calls a) ≡ released (priority (table_of (fresh_of bytes h)) i) → told (R b) (calls b) ≡ released (priority (table_of (fresh_of bytes h)) i)
      → (serial ((state_of (S (suc a))).entry i) ≡ serial ((state_of (S (suc b))).entry i))
      ↔ Wraps (releases (λ k. told (R k) (calls k)) (priority (table_of (fresh_of bytes h)) i) a)
      (releases (λ k. told (R k) (calls k)) (priority (table_of (fresh_of bytes h)) i) b)
  number_comes_back = calls_number_again D
