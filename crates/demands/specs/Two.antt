-- Demand 2, the paper's bounds: each the least solution of its equation, none exactly when no solution lies within the deadline, the whole set the
-- largest that agrees with itself, values beside a none marked conditional. Each lock call does what the rules say. Tables written and read come back
-- the same, as bytes and as text.
use Rattle.std.specs.Prelude.{ℕ, ◌≤◌, ◌<◌, ◌≡◌, ◌↔◌, true, List, [], ◌++◌, get_or, length, take, drop}
use Rattle.std.proofs.Common.{arith}
use Rattle.table.specs.declared.Shape.{Shape}
use Rattle.std.specs.Prelude.{Ok}
use Rattle.table.specs.Reading.{read_table}
use Rattle.table.specs.WellFormed.{WellFormed}
use Rattle.table.proofs.Accepted.{well_formed}
use Rattle.table.proofs.Complete.{complete}
use Rattle.table.proofs.Decided as decided
use Rattle.rounds.specs.Answer as rounds
use Rattle.rounds.specs.Answer.{Right}
use Rattle.rounds.specs.System.{deadline, Final}
use Rattle.rounds.specs.Vector.{◌⊑◌}
use Rattle.rounds.specs.Rounds.{analysis, answer}
use Rattle.held.specs.declared.Table.{Table}
use Rattle.held.specs.Loading.{load_table}
use Rattle.held.specs.Writing.{write_table, written}
use Rattle.held.specs.Trips as held
use Rattle.held.proofs.Trips as trips
use Rattle.analysis.specs.declared.TaskAnswer.TheVariants.{Conditional}
use Rattle.analysis.specs.Refusing.{refusal_number}
use Rattle.analysis.specs.Analysing.{own_system, verdict_of, analysed}
use Rattle.analysis.specs.Answering.{answer_at, told_of}
use Rattle.analysis.proofs.Right as right
use Rattle.analysis.proofs.Replies as replies
use Rattle.analysis.proofs.Replies.{total_of, SomeNone}
use Rattle.lines.specs.Lines.{printed}
use Rattle.lines.proofs.Fronts.{front_printed}
use Rattle.notation.specs.Numbered.{Fault, Packed, Faulty}
use Rattle.notation.specs.Packing.{packed, pack_text}
use Rattle.notation.specs.Faults.{pack_printed}
use Rattle.notation.specs.Showing.{shown}
use Rattle.notation.specs.Truths.{TrueFault}
use Rattle.notation.proofs.Answers as answers
use Rattle.notation.proofs.Fronts as fronts
use Rattle.notation.proofs.Trips as texts
use Rattle.notation.proofs.TrueFaults as truths
use Rattle.protocol.specs.Running.{in_force}
use Rattle.protocol.specs.Checks.{Call}
use Rattle.protocol.specs.Step.{step}
use Rattle.scheduler.specs.declared.Scheduler.{Scheduler}
use Rattle.scheduler.specs.View.{Sized, table_of, state_of}
use Rattle.scheduler.specs.Replies.{replied}
use Rattle.scheduler.proofs.Following.{replied_follows}

-- ---- bounds

module _ (s : List ℕ) (h : Shape) (accepted : read_table s ≡ Ok h) where
  -- the values are the largest that agree with themselves
  pub largest_agreeing : Final (own_system s h) (analysis (own_system s h)).vector
  largest_agreeing = right.largest_vector s h accepted

  -- and none is above its deadline
  pub within_deadlines : (analysis (own_system s h)).vector ⊑ (own_system s h).deadlines
  within_deadlines = right.within_deadlines s h accepted

  -- each bound is the least solution of its equation under them, and none says that no solution lies within the deadline
  pub each_right : (i : ℕ) → i < h.tasks → Right ((own_system s h).side i (analysis (own_system s h)).vector) (deadline (own_system s h) i) (answer (own_system s h) i)
  each_right = right.each_right s h accepted

  -- refused exactly when the total is larger than the allowance, and then with 8
  pub refused_exactly : (allowance : ℕ) → (refusal_number (analysed s allowance).refusal ≡ 8) ↔ (allowance < total_of s h)
  refused_exactly allowance = replies.refused_exactly s h allowance accepted

  module _ (allowance : ℕ) (enough : total_of s h ≤ allowance) where
    -- the verdict is yes exactly when no task has none
    pub verdict_yes : ((analysed s allowance).verdict ≡ true) ↔ ((i : ℕ) → i < h.tasks → answer (own_system s h) i ≡ rounds.none → ⊥)
    verdict_yes = replies.verdict_yes s h accepted allowance enough

    -- each task is told its answer
    pub each_told : (i : ℕ) → i < h.tasks → answer_at (analysed s allowance) i ≡ told_of (verdict_of s h) (answer (own_system s h) i)
    each_told = replies.each_told s h accepted allowance enough

    -- as conditional exactly when it has a bound and some task has none
    pub conditional_exactly : (i : ℕ) → i < h.tasks → (t : ℕ)
        → (answer_at (analysed s allowance) i ≡ Conditional t) ↔ ((answer (own_system s h) i ≡ rounds.bound t) × SomeNone s h)
    conditional_exactly = replies.conditional_exactly s h accepted allowance enough

-- a larger allowance never alters an answer already given
pub answer_stands : (s : List ℕ) (a b : ℕ) → a ≤ b → (refusal_number (analysed s a).refusal ≡ 8 → ⊥) → analysed s b ≡ analysed s a
answer_stands = replies.larger_allowance

-- ---- calls

-- each lock call does what the rules say: the state that it answers, seen, is the machine's next state
pub call_follows : {s : Scheduler} → Sized s → (c : Call) → state_of (replied s c).state ≡ (step in_force (table_of s) (state_of s) c).state
call_follows Z c = replied_follows Z c

-- ---- tables

-- a table is accepted exactly when it is well formed
pub accepted_exactly : (s : List ℕ) (h : Shape) → (read_table s ≡ Ok h) ↔ WellFormed s h
accepted_exactly s h = (well_formed s h, complete s h)

-- 8,192 bytes decide any input, and what the bounds program prints of it
pub front_decides : (s : List ℕ) (allowance : ℕ) → (read_table (take 8192 s) ≡ read_table s) × (printed (take 8192 s) allowance ≡ printed s allowance)
front_decides s allowance = (decided.front_decides s 8192 (omega arith), front_printed s allowance)

-- bytes that are accepted, loaded and written are the same bytes, and the rest of the buffer stays
pub bytes_again : (s : List ℕ) → ((i : ℕ) → get_or s i 0 < 256) → (h : Shape) → read_table s ≡ Ok h → (out : List ℕ) → length s ≤ length out
    → (write_table (load_table s).table (length out) ≡ Ok (length s)) × (written (load_table s).table out ≡ s ++ drop (length s) out)
bytes_again = trips.bytes_again

-- a held table that is written and loaded is the same table, with the entries past its counts 0
pub table_again : (t : Table) → held.Sized t → (out : List ℕ) (n : ℕ) → write_table t (length out) ≡ Ok n
    → (load_table (take n (written t out))).table ≡ held.trimmed t
table_again = trips.table_again

-- ---- texts

-- the text of an accepted table packs back to the same bytes
pub text_again : (s : List ℕ) → ((i : ℕ) → get_or s i 0 < 256) → (h : Shape) → read_table s ≡ Ok h → pack_text (shown s) ≡ packed s
text_again = texts.packed_again

-- what is packed is an accepted table, and a text with a fault gives no byte
pub packed_accepted : (t : List ℕ) (n : ℕ) → (pack_text t).packing ≡ Packed n
    → (h : Shape) × (read_table (pack_text t).bytes ≡ Ok h) × (n ≡ length (pack_text t).bytes)
packed_accepted = answers.packed_accepted

pub fault_alone : (t : List ℕ) (f : Fault) → (pack_text t).packing ≡ Faulty f → (pack_text t).bytes ≡ []
fault_alone = answers.faulty_nothing

-- what a fault of a rule says of its two values is so, of the record of its own line
pub fault_true : (t : List ℕ) (f : Fault) → (pack_text t).packing ≡ Faulty f → 7 ≤ f.cause → f.cause ≤ 16 → TrueFault t f
fault_true = truths.text_true

-- 8,192 bytes of a table and 262,145 of a text decide what is printed of them
pub front_shown : (s : List ℕ) → shown (take 8192 s) ≡ shown s
front_shown = fronts.front_shown

pub front_packed : (t : List ℕ) → pack_printed (take 262145 t) ≡ pack_printed t
front_packed = fronts.front_packed
