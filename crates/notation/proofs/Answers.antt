-- What a text is packed as: an accepted table with the count of its bytes, or a fault of some cause and no bytes; and so many bytes decide any text.
use Prim.Native.Nat.{ℕ, zero, suc, ◌+◌, ◌*◌, ◌≤◌, ◌<◌}
use mathlib.Core.Path.{◌≡◌, refl, sym, ap}
use mathlib.Core.Bool.{Bool, true, false, cond, ◌&&◌}
use mathlib.Core.List.{List, [], ◌∷◌, ◌++◌}
use native.Mathlib.Omega.{arith}
use lib.Dec.{ltb, leb, eqb}
use lib.ListN.{length, get_or}
use borrow.Author.Tests.{lt-ltb}
use Rattle.searches.proofs.Testing.{impossible}
use Rattle.table.specs.declared.Shape.{Shape}
use Rattle.table.specs.declared.Task.{Task}
use Rattle.table.specs.Fields.{task_at}
use Rattle.table.specs.Replies.{why_number}
use Rattle.table.specs.Rules.{place_from}
use Rattle.table.specs.Reading.{Reading}
use Rattle.std.proofs.Common.{◌≢◌, Ok, Err}
use Rattle.table.specs.Reading.{read_table}
use Rattle.table.proofs.Accepted.{well_formed}
use Rattle.notation.specs.declared.stepping.Position.{Position}
use Rattle.notation.specs.declared.Fault.{Fault as NamedFault}
use Rattle.notation.specs.declared.causes.Cause.TheVariants.{Unknown}
use Rattle.notation.specs.Causes.{cause_number}
use Rattle.notation.specs.Numbered.{Fault, Packed, Faulty, fault_of, packing_of}
use Rattle.notation.specs.Reasons.{Reason, range_reason, task_reason, use_reason, reason_at}
use Rattle.notation.specs.Rows.{Row, row_at}
use Rattle.notation.proofs.Choosing.{chosen}
use Rattle.notation.specs.Packing.{longest, Outcome, faulty, whole, packed, Step, on, over, past, judged, line_step, ended, end_of, step_at, onward, pack_from, start, pack_text, pack_into}

-- a refused record has a cause
reason_some : (s : List ℕ) (at n number : ℕ) → 1 ≤ (reason_at s at n number).cause
unfolding task_reason use_reason range_reason
reason_some s at n number =
    chosen some (eqb (get_or s at 0) 1)
    (chosen some (eqb number 4) (omega arith)
    (chosen some (eqb number 3) (chosen some (ltb (20 * n) at) (omega arith) (omega arith))
    (chosen some (leb t.priority t.setting) (omega arith)
    (chosen some (eqb t.sleeps 0 && ltb 0 t.sleep) (omega arith)
    (chosen some (ltb t.deadline t.run) (omega arith) (omega arith))))))
    (chosen some (eqb number 6) (omega arith) (chosen some (leb n (place_from n s 0 (get_or s (at + 1) 0))) (omega arith) (omega arith)))
  where
    some : Reason → Type 0
    some why = 1 ≤ why.cause

    t : Task
    t = task_at s at

-- what is not 0 is some
not_none : (c : ℕ) → eqb c 0 ≡ false → 1 ≤ c
not_none zero e = absurd (impossible cc)
not_none (suc c) e = omega arith

-- an answer: a fault of some cause, or the bytes of an accepted table
data Answer : Outcome → Type 0 where
  of_fault : (f : Fault) → 1 ≤ f.cause → Answer (faulty f)
  of_table : (s : List ℕ) (h : Shape) → read_table s ≡ Ok h → Answer (packed s)

-- a step ends in such an answer, if it ends
abbrev Answers : Step → Type 0
Answers (on w records) = Unit {0}
Answers (over o) = Answer o

-- the end of the text
end_answer : (w : Position) (records : List ℕ) → Answer (end_of w records)
unfolding end_of
end_answer w records = go (read_table (records ++ 3 ∷ [])) refl
  where
    go : (r : Reading) → read_table (records ++ 3 ∷ []) ≡ r → Answer (ended r w (records ++ 3 ∷ []))
    go (Ok h) e = of_table (records ++ 3 ∷ []) h e
    go (Err r) e = of_fault _ (omega arith)

-- a line
line_answers : (s : List ℕ) (w : Position) (records : List ℕ) → Answers (line_step s w records)
unfolding line_step
line_answers s w records =
    let row = row_at s w.at in
    go (eqb row.cause 0) (eqb (length row.bytes) 0) (read_table ((records ++ row.bytes) ++ 3 ∷ [])) row (not_none row.cause)
  where
    go : (a b : Bool) (r : Reading) (row : Row) → (a ≡ false → 1 ≤ row.cause)
        → Answers (cond a (cond b (on (past s w row.at w.count w.tasks) records) (judged r s w row.at (records ++ row.bytes)))
        (over (faulty (record { line = w.line; cause = row.cause; column = row.column; at = row.at; value = 0; other = 0 }))))
    go true true r row some = tt
    go true false (Ok h) row some = tt
    go true false (Err f) row some = of_fault _ (reason_some (records ++ row.bytes) w.count w.tasks (why_number f.why))
    go false b r row some = of_fault _ (some refl)

-- a step
step_answers : (s : List ℕ) (w : Position) (records : List ℕ) → Answers (step_at s w records)
unfolding step_at
step_answers s w records = go (leb (length s) w.at)
  where
    go : (b : Bool) → Answers (cond b (over (end_of w records)) (line_step s w records))
    go true = end_answer w records
    go false = line_answers s w records

-- so many lines
from_answer : (k : ℕ) (s : List ℕ) (w : Position) (records : List ℕ) → Answer (pack_from k s w records)
unfolding pack_from
from_answer zero s w records = of_fault _ (omega arith)
from_answer (suc k) s w records = go (step_at s w records) (step_answers s w records) (from_answer k s)
  where
    go : (x : Step) → Answers x → ((v : Position) (more : List ℕ) → Answer (pack_from k s v more)) → Answer (onward x (pack_from k s))
    go (on v more) a f = f v more
    go (over o) a f = a

-- a whole text
text_answer : (t : List ℕ) → Answer (pack_text t)
unfolding pack_text
text_answer t = go (ltb longest (length t))
  where
    go : (b : Bool) → Answer (cond b (whole 1 18) (pack_from (length t + 1) t start []))
    go true = of_fault _ (omega arith)
    go false = from_answer (length t + 1) t start []

-- what is packed is an accepted table, and the count is that of its bytes
pub packed_accepted : (t : List ℕ) (n : ℕ) → (pack_text t).packing ≡ Packed n
    → (h : Shape) × (read_table (pack_text t).bytes ≡ Ok h) × (n ≡ length (pack_text t).bytes)
packed_accepted t n e = go (pack_text t) (text_answer t) e
  where
    go : (o : Outcome) → Answer o → o.packing ≡ Packed n → (h : Shape) × (read_table o.bytes ≡ Ok h) × (n ≡ length o.bytes)
    go o (of_fault f some) e = absurd (impossible cc)
    go o (of_table s h a) e = (h, a, cc)

-- a text with a fault has no bytes
pub faulty_nothing : (t : List ℕ) (f : Fault) → (pack_text t).packing ≡ Faulty f → (pack_text t).bytes ≡ []
faulty_nothing t f e = go (pack_text t) (text_answer t) e
  where
    go : (o : Outcome) → Answer o → o.packing ≡ Faulty f → o.bytes ≡ []
    go o (of_fault g some) e = refl
    go o (of_table s h a) e = absurd (impossible cc)

-- and no fault has the number 0 as its cause, in whatever room
pub fault_some : (room : ℕ) (t : List ℕ) (f : Fault) → (pack_into room t).packing ≡ Faulty f → 1 ≤ f.cause
fault_some room t f e = go (ltb room (length (pack_text t).bytes)) e
  where
    packed_some : (o : Outcome) → Answer o → o.packing ≡ Faulty f → 1 ≤ f.cause
    packed_some o (of_fault g some) p = let q : g ≡ f = cc in omega (arith, some, ap (λ (x : Fault). x.cause) q)
    packed_some o (of_table s h a) p = absurd (impossible cc)

    go : (b : Bool) → (cond b (whole 1 19) (pack_text t)).packing ≡ Faulty f → 1 ≤ f.cause
    go true p = packed_some (whole 1 19) (of_fault _ (omega arith)) p
    go false p = packed_some (pack_text t) (text_answer t) p

-- so pack answers none of an unknown cause
pub pack_known : (room : ℕ) (t : List ℕ) (f : NamedFault) → packing_of (Err f) ≡ (pack_into room t).packing → f.cause ≢ Unknown
pack_known room t f e z =
    let none = ap cause_number z in
    omega (arith, none, fault_some room t (fault_of f) (sym e))

-- the largest table has 4,737 bytes
pub bytes_most : (t : List ℕ) → length (pack_text t).bytes ≤ 4737
bytes_most t = go (pack_text t) (text_answer t)
  where
    go : (o : Outcome) → Answer o → length o.bytes ≤ 4737
    go o (of_fault f some) = omega arith
    go o (of_table s h a) = let f = well_formed s h a in omega (arith, f.whole, f.start, f.tasks_most, f.uses_most)

-- a text above the longest is a fault, whatever is in it
pub too_long : (t : List ℕ) → longest < length t → pack_text t ≡ whole 1 18
unfolding pack_text
too_long t l = ap (λ (b : Bool). cond b (whole 1 18) (pack_from (length t + 1) t start [])) (lt-ltb longest (length t) l)
