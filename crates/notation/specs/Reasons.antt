-- Why the reader refuses a record, in words of its line: the cause, by its number, and the two values that show it.
use Rattle.std.specs.Prelude.{ℕ, ◌+◌, ◌*◌, ◌-◌, cond, ◌&&◌, List, ltb, leb, eqb, get_or}
use Rattle.table.specs.declared.Task.{Task}
use Rattle.table.specs.Fields.{word_at, task_at}
use Rattle.table.specs.Rules.{place_from}
use Rattle.notation.specs.declared.reasons.Reason.{Reason as NamedReason}
use Rattle.notation.specs.Causes.{cause_number}

-- the cause, and the two values that show it
pub record Reason : Type 0 where
  pub cause : ℕ
  pub value : ℕ
  pub other : ℕ

-- a reason of the code's, which names its cause
abbrev pub reason_of : NamedReason → Reason
reason_of why = record { cause = cause_number why.cause; value = why.value; other = why.other }

-- a rule that is broken, and the two values that show it
abbrev pub reason : ℕ → ℕ → ℕ → Reason
reason cause value other = record { cause = cause; value = value; other = other }

-- a task's fields: 7 setting not below the priority, 8 a sleep without sleeps, 9 run above the deadline, 10 deadline above the period
unfoldable pub range_reason : Task → Reason
range_reason t =
    cond (leb t.priority t.setting) (reason 7 t.setting t.priority)
    (cond (eqb t.sleeps 0 && ltb 0 t.sleep) (reason 8 t.sleep 0)
    (cond (ltb t.deadline t.run) (reason 9 t.run t.deadline)
    (reason 10 t.deadline t.period)))

-- the task record that starts at a place, after n tasks: 11 one too many, 12 after a use, 13 not below the last, or its fields
unfoldable pub task_reason : List ℕ → ℕ → ℕ → ℕ → Reason
task_reason s at n number =
    cond (eqb number 4) (reason 11 (get_or s (at + 1) 0) 32)
    (cond (eqb number 3)
    (cond (ltb (20 * n) at) (reason 12 (get_or s (at + 1) 0) (get_or s (at - 7) 0)) (reason 13 (get_or s (at + 1) 0) (get_or s (at - 19) 0)))
    (range_reason (task_at s at)))

-- the use record that starts at a place, after n tasks: 16 past the run time of its task, 14 of no task, 15 out of order
unfoldable pub use_reason : List ℕ → ℕ → ℕ → ℕ → Reason
use_reason s at n number =
    let p = get_or s (at + 1) 0 in
    cond (eqb number 6) (reason 16 p (word_at s (20 * place_from n s 0 p + 4)))
    (cond (leb n (place_from n s 0 p)) (reason 14 p p) (reason 15 (get_or s (at + 2) 0) p))

-- the record that starts at a place, by its kind
abbrev pub reason_at : List ℕ → ℕ → ℕ → ℕ → Reason
reason_at s at n number = cond (eqb (get_or s at 0) 1) (task_reason s at n number) (use_reason s at n number)
