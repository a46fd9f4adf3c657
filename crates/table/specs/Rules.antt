-- What is checked of one record, given the records before it, and in which order; and how the walk goes on past it.
use Rattle.std.specs.Prelude.{ℕ, zero, suc, ◌+◌, ◌*◌, List, cond, ◌&&◌, ◌||◌, get_or, ltb, leb, eqb, Result, Ok, Err}
use Rattle.table.specs.declared.Why.{Why}
use Rattle.table.specs.declared.Why.TheVariants.{Order, TooMany, Range, Sections}
use Rattle.table.specs.declared.Task.{Task}
use Rattle.table.specs.declared.Use.{Use}
use Rattle.table.specs.declared.walk.Walk.{Walk}
use Rattle.table.specs.Ranges.{task_fits, use_fits}

-- what a rule says of a record: that it may stand where it does, or why not
abbrev pub Ruling : Type 0
Ruling = Result (Unit {0}) Why

abbrev pub stands : Ruling
stands = Ok tt

-- a task: a 33rd is one too many; after a use, or with a priority not below the last, it is out of order; out of range; else it passes
unfoldable pub task_rule : Walk → Task → Ruling
task_rule w t =
    cond (leb 32 w.tasks) (Err TooMany)
    (cond (leb 1 w.uses || leb w.last t.priority) (Err Order)
    (cond (task_fits t) stands (Err Range)))

-- past a task
abbrev pub with_task : Walk → Task → Walk
with_task w t = record {
  at = w.at + 20;
  tasks = w.tasks + 1;
  last = t.priority;
  uses = w.uses;
  user = w.user;
  least = w.least;
  sum = w.sum;
}

-- the place of the first of k tasks, from place i on, that has the priority p; past them all where none has
unfoldable pub place_from : ℕ → List ℕ → ℕ → ℕ → ℕ
place_from zero s i p = i
place_from (suc k) s i p = cond (eqb (get_or s (20 * i + 1) 0) p) i (place_from k s (i + 1) p)

-- what the sections of the task at place i add up to, this use with them
unfoldable pub sum_after : Walk → Use → ℕ → ℕ
sum_after w u i = cond (eqb i w.user) (w.sum + u.times * u.length) (u.times * u.length)

-- a use of the task at place i, whose run time is c: of no task from the last use's on, or with a resource that does not rise, it is
-- out of order; out of range; it may take the task's sections past C; else it passes
unfoldable pub use_rule : Walk → Use → ℕ → ℕ → Ruling
use_rule w u i c =
    cond (leb w.tasks i || (eqb i w.user && ltb u.resource w.least)) (Err Order)
    (cond (use_fits u) (cond (ltb c (sum_after w u i)) (Err Sections) stands) (Err Range))

-- past a use of the task at place i
abbrev pub with_use : Walk → Use → ℕ → Walk
with_use w u i = record {
  at = w.at + 8;
  tasks = w.tasks;
  last = w.last;
  uses = w.uses + 1;
  user = i;
  least = u.resource + 1;
  sum = sum_after w u i;
}
