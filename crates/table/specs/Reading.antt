-- What a table's bytes are read as: record by record, the first at fault decides.
use Rattle.std.specs.Prelude.{ℕ, zero, suc, ◌+◌, ◌*◌, ◌-◌, List, cond, get_or, length, ltb, leb, eqb, Option, Some, None, Result, Ok, Err}
use Rattle.table.specs.declared.Shape.{Shape}
use Rattle.table.specs.declared.Refusal.{Refusal}
use Rattle.table.specs.declared.Why.{Why}
use Rattle.table.specs.declared.Why.TheVariants as whys
use Rattle.table.specs.declared.walk.Walk.{Walk}
use Rattle.table.specs.declared.walk.Step.{Step}
use Rattle.table.specs.declared.walk.Step.TheVariants.{On, Done}
use Rattle.table.specs.declared.walk.Kind.{Kind}
use Rattle.table.specs.declared.walk.Kind.TheVariants as kinds
use Rattle.table.specs.Fields.{word_at, task_at, use_at}
use Rattle.table.specs.Rules.{Ruling, task_rule, with_task, place_from, use_rule, with_use}

-- what bytes are read as: the shape of an accepted table, or a refusal
abbrev pub Reading : Type 0
Reading = Result Shape Refusal

-- before the first record: any priority, 256 being above them all, and any resource
abbrev pub start_walk : Walk
start_walk = record { at = 0; tasks = 0; last = 256; uses = 0; user = 0; least = 0; sum = 0 }

-- refused for a reason, at a place
abbrev pub refusal : {A : Type 0} → Why → ℕ → Result A Refusal
refusal y place = Err (record { why = y; place = place })

-- on, where the rule passes the record, else its refusal at the record's start
abbrev pub ruled : Ruling → ℕ → Walk → Result Walk Refusal
ruled (Ok _) place w = Ok w
ruled (Err y) place w = refusal y place

-- kind 1, a task: 19 bytes of body
unfoldable pub task_step : List ℕ → Walk → Result Walk Refusal
task_step s w =
    cond (ltb (length s - w.at) 20) (refusal whys.Cut w.at)
    (ruled (task_rule w (task_at s w.at)) w.at (with_task w (task_at s w.at)))

-- the place of the task that the use at the walk's place is of: that of the last use's task or a later one, or the count where none fits
abbrev pub user_at : List ℕ → Walk → ℕ
user_at s w = place_from (w.tasks - w.user) s w.user (use_at s w.at).priority

-- kind 2, a use: 7 bytes of body
unfoldable pub use_step : List ℕ → Walk → Result Walk Refusal
use_step s w =
    cond (ltb (length s - w.at) 8) (refusal whys.Cut w.at)
    (ruled (use_rule w (use_at s w.at) (user_at s w) (word_at s (20 * user_at s w + 4))) w.at (with_use w (use_at s w.at) (user_at s w)))

-- kind 3, the end: no body, at least one task before it, nothing after it
unfoldable pub end_step : List ℕ → Walk → Reading
end_step s w =
    cond (eqb w.tasks 0) (refusal whys.Order w.at)
    (cond (ltb 1 (length s - w.at)) (refusal whys.Beyond (w.at + 1))
    (Ok (record { tasks = w.tasks; uses_at = 20 * w.tasks; uses = w.uses })))

-- the kind that a byte says: 0 and 4 to 255 are unknown
abbrev pub kind_of : ℕ → Option Kind
kind_of b = cond (eqb b 1) (Some kinds.Task) (cond (eqb b 2) (Some kinds.Use) (cond (eqb b 3) (Some kinds.End) None))

-- a step that goes on, and one that ends, as steps of either kind
abbrev pub going : Result Walk Refusal → Result Step Refusal
going (Ok n) = Ok (On n)
going (Err r) = Err r

abbrev pub ending : Reading → Result Step Refusal
ending (Ok h) = Ok (Done h)
ending (Err r) = Err r

-- the record at the walk's place, of a kind
abbrev pub step_of : Option Kind → List ℕ → Walk → Result Step Refusal
step_of (Some kinds.Task) s w = going (task_step s w)
step_of (Some kinds.Use) s w = going (use_step s w)
step_of (Some kinds.End) s w = ending (end_step s w)
step_of None s w = refusal whys.Kind w.at

-- the record at the walk's place, by its kind byte
unfoldable pub step_at : List ℕ → Walk → Result Step Refusal
step_at s w = cond (leb (length s) w.at) (refusal whys.Cut w.at) (step_of (kind_of (get_or s w.at 0)) s w)

-- the answer where the walk has ended, else what the rest of it gives
abbrev pub onward : Result Step Refusal → (Walk → Reading) → Reading
onward (Ok (On w)) f = f w
onward (Ok (Done h)) f = Ok h
onward (Err r) f = Err r

-- at most k records from w on
unfoldable pub read_from : ℕ → List ℕ → Walk → Reading
read_from zero s w = refusal whys.Cut w.at
read_from (suc k) s w = onward (step_at s w) (read_from k s)

-- a whole table: each record has a byte at least, so the count of records never decides
abbrev pub read_table : List ℕ → Reading
read_table s = read_from (length s + 1) s start_walk
