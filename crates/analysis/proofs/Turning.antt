-- One turn of a round, as the code makes it.
use Prim.Native.Nat.{ℕ, ◌+◌, ◌≤◌, ◌<◌}
use mathlib.Core.Path.{◌≡◌, refl, sym, ap, subst, ◌∙◌}
use Rattle.std.specs.Prelude.{Option, Some, None, Err}
use Rattle.std.specs.Option.{is_some}
use mathlib.Core.Bool.{Bool, false, ◌||◌, or_comm}
use mathlib.Core.List.{List}
use native.Mathlib.Omega.{arith}
use lib.ListN.{get_or, length, set, length-set}
use lib.Seq.{get_or-set_same, get_or-set_other}
use borrow.Author.Count.{below_more}
use Rattle.table.specs.WellFormed.{task_of}
use Rattle.rounds.specs.System.{System, size}
use Rattle.rounds.specs.OnWay.{OnWay}
use Rattle.rounds.proofs.OnWay.{on_way_floor}
use Rattle.equations.specs.declared.Equations.{Equations}
use Rattle.equations.specs.declared.Query.{Query}
use Rattle.equations.specs.declared.keeps.KeptUses.{KeptUses}
use Rattle.equations.specs.Ready.{QueryIs}
use Rattle.analysis.specs.Seen.{equations_in}
use Rattle.analysis.specs.Solving.{answer_of, Solvable}
use Rattle.rounds.specs.Rounds.{Progress, reply, lowers, changed, answer_in}
use Rattle.rounds.specs.RoundLoop.{Turned}
use Rattle.rounds.proofs.RoundLoop.{turned_over, turned_next, turned_answer, turned_end}
use Rattle.analysis.specs.declared.solver.Reply.{Reply}
use Rattle.analysis.specs.declared.Spent.{Spent}
use Rattle.analysis.specs.Rounding.{bounded, progress, Lowers, Marks, Left, Rounded}
use Rattle.analysis.proofs.Table.{table_size, deadline_is, lawful_in}

module _ (E : Equations) where
  -- there is an equation for each task
  pub sized : size (equations_in E) ≡ E.table.shape.tasks
  sized = table_size E.table.bytes.now E.table.shape E.settings.now E.table.well_formed

  module _ (v : List ℕ) (way : OnWay (equations_in E) v) where
    -- a vector on the way has a value for each task
    pub way_sized : length v ≡ E.table.shape.tasks
    way_sized = way.sized ∙ sized

    way_most : (j : ℕ) → j < E.table.shape.tasks → get_or v j 0 ≤ 1000000
    way_most j l =
        let r = E.table.well_formed.task_range j l in
        omega (arith, way.within j, deadline_is E.table.bytes.now E.table.shape E.settings.now E.table.well_formed j l, r.deadline_within, r.period)

    way_floor : (j : ℕ) → j < E.table.shape.tasks → (task_of E.table.bytes.now j).run ≤ get_or v j 0
    way_floor j l =
        let r = E.table.well_formed.task_range j l in
        on_way_floor (equations_in E) (lawful_in E) v way j (rw sized l)
        (task_of E.table.bytes.now j).run (omega arith)
        (omega (arith, deadline_is E.table.bytes.now E.table.shape E.settings.now E.table.well_formed j l, r.run_within))

    -- the task at place i can be solved under it
    pub solvable : (i : ℕ) (kept : KeptUses) (q : Query) → i < E.table.shape.tasks
        → QueryIs E.table.bytes.now E.table.shape E.settings.now i kept.words kept.count q → Solvable E v kept q
    solvable i kept q l k = record {
      query = subst (λ x. QueryIs E.table.bytes.now E.table.shape E.settings.now x kept.words kept.count q) (sym k.task) k;
      task = rw k.task l;
      sized = way_sized;
      most = way_most;
      floor = way_floor;
    }

-- the code's test for a bound is the definition's
bound_told : (a : Option ℕ) → is_some a ≡ bounded (answer_of a)
bound_told (Some t) = refl
bound_told None = refl

-- where the round stands before turn i: the definition's turns, and which of the tasks so far have a bound
pub record Standing (n : ℕ) (S : System) (origin : Progress) (allowance i : ℕ) (now : Progress) (flag : Bool) (bounds : List Bool) : Type 0 where
  pub turned : Turned S origin allowance i now flag
  pub long : length bounds ≡ 32
  pub marks : Marks n bounds
  pub marked : (j : ℕ) → j < i → get_or bounds j false ≡ bounded (answer_in S origin j)

module _ (E : Equations) (v : List ℕ) (origin : Progress) (allowance i made : ℕ) (flag : Bool) (bounds : List Bool)
    (g : Standing E.table.shape.tasks (equations_in E) origin allowance i (progress v made) flag bounds) where
  module _ (l : i < E.table.shape.tasks) where
    inside : i < size (equations_in E)
    inside = rw (sized E) l

    -- where the allowance is spent the round passes it
    pub spent_round : allowance < (reply (equations_in E) i v made).evaluations → (u : List ℕ) (x : Spent)
        → Rounded E.table.shape.tasks allowance (equations_in E) origin u bounds (Err x)
    spent_round l u x = record {
      marks = g.marks;
      says = turned_over (equations_in E) origin allowance i (progress v made) flag g.turned inside l;
    }

    -- one turn further
    pub next_turn : (r : Reply) → record { answer = answer_of r.bound; evaluations = r.evaluations } ≡ reply (equations_in E) i v made → r.evaluations ≤ allowance
        → (b : Bool) → b ≡ is_some r.bound → (u : List ℕ) (raised : Bool) → Lowers v i r.bound u raised
        → Standing E.table.shape.tasks (equations_in E) origin allowance (i + 1) (progress u r.evaluations) (flag || raised) (set bounds i b)
    next_turn r whole few b e u raised low =
        let turned = turned_next (equations_in E) origin allowance i (progress v made) flag g.turned
        (lawful_in E) inside
        (record { answer = answer_of r.bound; evaluations = r.evaluations }) whole few in
        let told = turned_answer (equations_in E) origin allowance i (progress v made) flag g.turned
        (record { answer = answer_of r.bound; evaluations = r.evaluations }) whole in
        record {
          turned = subst (λ x. Turned (equations_in E) origin allowance (i + 1) (progress u r.evaluations) x)
              (or_comm (lowers v i (answer_of r.bound)) flag ∙ ap (λ (x : Bool). flag || x) (sym low.raised))
              (subst (λ x. Turned (equations_in E) origin allowance (i + 1) (progress x r.evaluations) (lowers v i (answer_of r.bound) || flag)) (sym low.vector) turned);
          long = length-set bounds i b ∙ g.long;
          marks = λ j p. get_or-set_other bounds i j b false (λ z. omega arith) ∙ g.marks j p;
          marked = below_more (λ j. get_or (set bounds i b) j false ≡ bounded (answer_in (equations_in E) origin j)) i
              (λ j p. get_or-set_other bounds i j b false (λ z. omega arith) ∙ g.marked j p)
              (get_or-set_same bounds i b false (omega (arith, g.long, E.table.well_formed.tasks_most)) ∙ e ∙ bound_told r.bound ∙ ap bounded (sym told));
        }

  -- after the last turn the round is done
  pub done_round : E.table.shape.tasks ≤ i → Left allowance (equations_in E) origin v bounds made flag
  done_round l =
      let size_is = sized E in
      let end = turned_end (equations_in E) origin allowance i (progress v made) flag g.turned (omega arith) in
      record {
        done = end;
        counted = g.turned.counted;
        told = g.turned.told ∙ ap (changed origin) end;
        bounds_are = λ j p. g.marked j (omega arith);
      }
