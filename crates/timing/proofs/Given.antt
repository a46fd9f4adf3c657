-- What the argument rests on, and what it says of the machine's jobs.
use Prim.Native.Nat.{ℕ, suc, ◌+◌, ◌-◌, ◌≤◌, ◌<◌}
use mathlib.Core.Path.{◌≡◌, sym, ap, subst, ◌∙◌}
use mathlib.Core.List.{List}
use native.Mathlib.Omega.{arith}
use Rattle.searches.specs.Searches.{Place}
use Rattle.table.specs.declared.Shape.{Shape}
use Rattle.table.specs.declared.Task.{Task}
use Rattle.table.specs.WellFormed.{task_of, use_of, user_of, WellFormed}
use Rattle.rounds.specs.Vector.{at}
use Rattle.rounds.specs.Answer.{Solution}
use Rattle.equations.specs.View.{View, own_view}
use Rattle.equations.specs.Equations.{right_side, blocking, additions}
use Rattle.protocol.specs.Tasks.{Table, priority}
use Rattle.protocol.specs.State.{State}
use Rattle.protocol.specs.Running.{in_force, running}
use Rattle.protocol.specs.Checks.{Call}
use Rattle.protocol.specs.Accepted.{Accepted}
use Rattle.protocol.specs.Trace.{Event, released, after, event, Has, Open}
use Rattle.timing.specs.Statement.{Clock, At, calls_by, Seen, seen_under, executes, rests, count, Obeys}
use Rattle.timing.proofs.Counts.{count_split}
use Rattle.timing.proofs.Instants.{instant}
use Rattle.timing.proofs.Jobs as jobs
use Rattle.timing.proofs.Figures.{Figures, user_priority_lem}

-- A well-formed table and the machine's table of it, calls at instants that keep to it, and values that solve its equations.
pub record Given : Type 0 where
  pub bytes : List ℕ
  pub shape : Shape
  pub well : WellFormed bytes shape
  pub table : Table
  pub accepted : Accepted table
  pub figures : Figures bytes shape table
  pub calls : ℕ → Call
  pub clock : Clock
  pub obeys : Obeys bytes shape clock (seen_under in_force table calls)
  pub values : List ℕ
  pub solved : (i : ℕ) → i < table.size → Solution (right_side (own_view bytes shape) i values) (task_of bytes i).deadline (at values i)

module _ (G : Given) where
  -- the state after k calls
  abbrev pub state : ℕ → State
  state k = after in_force G.table G.calls k

  -- what the call k brings about
  abbrev pub ev : ℕ → Event
  ev k = event in_force G.table G.calls k

  -- the calls made by the tick t
  abbrev pub tick : ℕ → ℕ
  tick t = calls_by G.clock t

  -- the state in it
  abbrev pub during : ℕ → State
  during t = state (tick t)

  -- who runs in it
  abbrev pub runner : ℕ → Place
  runner t = running in_force G.table (during t).entry

  -- what is seen of the calls
  abbrev pub sight : Seen
  sight = seen_under in_force G.table G.calls

  -- 1 where the task at i executes in a tick
  abbrev pub exec : ℕ → ℕ → ℕ
  exec i t = executes G.clock sight (priority G.table i) t

  -- 1 where that rests in it
  abbrev pub rest : ℕ → ℕ → ℕ
  rest i t = rests G.clock sight i t

  -- the figures of the task at i
  abbrev pub task : ℕ → Task
  task i = task_of G.bytes i

  -- its value
  abbrev pub value : ℕ → ℕ
  value i = at G.values i

  -- the table as the equations see it
  abbrev pub view : View
  view = own_view G.bytes G.shape

  -- After k calls the task at the place i has the job that the call a released.
  abbrev pub There : ℕ → ℕ → ℕ → Type 0
  There = jobs.There G.accepted G.calls

  -- ---- what the jobs keep to

  -- a task of the machine's table is one of the bytes
  placed : (i : ℕ) → i < G.table.size → i < G.shape.tasks
  placed i lt = omega (arith, G.figures.size)

  -- releases of a task are T apart
  pub apart : (i a b t u : ℕ) → i < G.table.size → a < b → ev a ≡ released (priority G.table i) → ev b ≡ released (priority G.table i)
      → At G.clock a t → At G.clock b u → t + (task i).period ≤ u
  apart i a b t u lt l e f p q =
      let same = ap released (G.figures.priority_is i lt) in
      omega (arith, G.obeys.apart i a b t u (placed i lt) l (e ∙ same) (f ∙ same) p q)

  -- a count from a later tick on, up to the same one, is no more
  from_later : (f : ℕ → ℕ) (a u n : ℕ) → a < tick u → (r : ℕ) × At G.clock a r × (r + (u - r + n) ≡ u + n) × (count f u n ≤ count f r (u - r + n))
  from_later f a u n l =
      let w = instant G.clock a (suc u) l in
      let e : w.0 + (u - w.0) ≡ u = omega (arith, w.1) in
      (w.0, w.2, omega (arith, w.1), omega (arith, count_split f w.0 (u - w.0) n, ap (λ x. count f x n) e))

  -- what a count is at most from the job's release on, it is from any later tick on
  since_release : (f : ℕ → ℕ) (c i a u n : ℕ) → i < G.table.size → a < tick u → There i a (G.clock.first (u + n))
      → ((r m : ℕ) → At G.clock a r → Has ev (task i).priority a (G.clock.first (r + m)) → count f r m ≤ c) → count f u n ≤ c
  since_release f c i a u n lt l h most =
      let w = from_later f a u n l in
      let whole = u - w.0 + n in
      omega (
        arith,
        w.3,
        most w.0 whole w.1 (subst (λ p. Has ev p a (G.clock.first (w.0 + whole))) (G.figures.priority_is i lt) (rw w.2 h)),
      )

  -- a job that is there until an instant has executed in C at most
  pub works : (i a u n : ℕ) → i < G.table.size → a < tick u → There i a (G.clock.first (u + n)) → count (exec i) u n ≤ (task i).run
  works i a u n lt l h =
      since_release (exec i) (task i).run i a u n lt l h (λ r m came x.
      let same = ap (λ p. count (executes G.clock sight p) r m) (G.figures.priority_is i lt) in
      omega (arith, same, G.obeys.works i a r m (placed i lt) came x))

  -- has slept through S at most
  pub sleeps : (i a u n : ℕ) → i < G.table.size → a < tick u → There i a (G.clock.first (u + n)) → count (rest i) u n ≤ (task i).sleep
  sleeps i a u n lt l h =
      since_release (rest i) (task i).sleep i a u n lt l h (λ r m came x. omega (arith, G.obeys.sleeps i a r m (placed i lt) came x))

  -- and in a section, that of the use k, it has executed in L at most
  pub holds : (k q r o u n : ℕ) → k < G.shape.uses → user_of G.bytes G.shape.tasks G.shape.uses_at k ≡ q
      → (use_of G.bytes G.shape.uses_at k).resource ≡ r → o < tick u → Open ev o (priority G.table q) r (G.clock.first (u + n))
      → count (exec q) u n ≤ (use_of G.bytes G.shape.uses_at k).length
  holds k q r o u n l e f lo v =
      let same : priority G.table q ≡ (use_of G.bytes G.shape.uses_at k).priority =
      ap (priority G.table) (sym e) ∙ sym (user_priority_lem G.well G.figures k l) in
      let w = from_later (exec q) o u n lo in
      omega (
        arith,
        w.3,
        ap (λ p. count (executes G.clock sight p) w.0 (u - w.0 + n)) same,
        G.obeys.holds k o w.0 (u - w.0 + n) l w.1 (rw (w.2, ← same, f) v),
      )

  -- ---- the values

  -- a value is what its equation says
  pub value_is : (i : ℕ) → i < G.table.size
      → (task i).run + (task i).sleep + blocking view i G.values (value i) + additions view i G.values (value i) ≡ value i
  value_is i lt = (G.solved i lt).solves

  -- C + S at least, and T at most
  pub value_room : (i : ℕ) → i < G.table.size → ((task i).run + (task i).sleep ≤ value i) × (value i ≤ (task i).period)
  value_room i lt =
      let range = G.well.task_range i (placed i lt) in
      let within = (G.solved i lt).within in
      (omega (arith, value_is i lt), omega (arith, within, range.deadline_within))

  -- C is 1 at least
  pub run_some : (i : ℕ) → i < G.table.size → 0 < (task i).run
  run_some i lt = (G.well.task_range i (placed i lt)).run

  -- and so is T
  pub period_some : (i : ℕ) → i < G.table.size → 0 < (task i).period
  period_some i lt =
      let range = G.well.task_range i (placed i lt) in
      omega (arith, range.run, range.run_within, range.deadline_within)
