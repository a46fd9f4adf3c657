-- The scope's call lists K and L, and the fair's, computed from the definitions: each call is answered with this refusal and this running job.
use mathlib.Core.Path.{◌≡◌, refl}
use mathlib.Core.List.{List, [], ◌∷◌}
use Prim.Native.Nat.{ℕ, zero, suc}
use lib.Dec.{eqb}
use Rattle.searches.specs.Searches.{first, best, all, some, largest, only}
use Rattle.protocol.specs.Tasks.{Task, Table}
use Rattle.protocol.specs.State.{fresh}
use Rattle.protocol.specs.Running.{ceiling, top, system_priority, in_force, running}
use Rattle.protocol.specs.Fit.{used, named, fit}
use Rattle.protocol.specs.Checks.{Call, release, resume, lock, unlock, suspend, complete}
use Rattle.protocol.specs.Acting.{has, without}
use Rattle.protocol.specs.Step.{Running, idle, job, step}
use Rattle.protocol.proofs.Listed.{answers}

-- a task with n uses of the resource q
abbrev pub task : ℕ → ℕ → ℕ → ℕ → ℕ → Task
task p set x q n = record { priority = p; setting = set; most = x; uses = λ r. only (eqb r q) n }

-- ---- K and L

-- the tasks 3, 2 and 1, with a setting for 3
abbrev tasks : ℕ → ℕ → Task
tasks set zero = task 3 set 1 1 1
tasks set (suc zero) = task 2 0 0 1 0
tasks set (suc (suc i)) = task 1 0 0 1 2

-- table A with the setting 0, table B with the setting 1
abbrev pub table : ℕ → Table
table set = record { size = 3; task = tasks set }

-- K's calls, and after them an unlock under job 1's number while 3 runs
abbrev pub calls_k : List Call
calls_k =
    release 1 ∷ lock 1 0 1 ∷ release 3 ∷ release 2 ∷ unlock 1 0 1 ∷ suspend 3 0 ∷ complete 2 0 ∷ lock 1 0 1 ∷ resume 3 0 ∷ unlock 1 0 1
    ∷ unlock 1 0 1 ∷ []

-- how they are answered, the last with 13
abbrev pub answers_k : List (ℕ × Running)
answers_k =
    (0, job 1 0) ∷ (0, job 1 0) ∷ (0, job 1 0) ∷ (0, job 1 0) ∷ (0, job 3 0) ∷ (0, job 2 0) ∷ (0, job 1 0) ∷ (0, job 1 0) ∷ (0, job 1 0)
    ∷ (0, job 3 0) ∷ (13, job 3 0) ∷ []

-- L's calls
abbrev pub calls_l : List Call
calls_l = release 1 ∷ lock 1 0 1 ∷ release 3 ∷ unlock 1 0 1 ∷ suspend 3 0 ∷ release 2 ∷ complete 2 0 ∷ resume 3 0 ∷ complete 3 0 ∷ []

-- how they are answered
abbrev pub answers_l : List (ℕ × Running)
answers_l =
    (0, job 1 0) ∷ (0, job 1 0) ∷ (0, job 1 0) ∷ (0, job 3 0) ∷ (0, idle) ∷ (0, job 2 0) ∷ (0, idle) ∷ (0, job 3 0) ∷ (0, job 1 0) ∷ []

-- ---- the fair

-- the tasks 3, with the setting 1, 2 and 1; 2 and 1 share a resource, so its ceiling is 2
abbrev fair_tasks : ℕ → Task
fair_tasks zero = task 3 1 1 1 0
fair_tasks (suc zero) = task 2 0 0 1 1
fair_tasks (suc (suc i)) = task 1 0 0 1 1

abbrev pub fair_table : Table
fair_table = record { size = 3; task = fair_tasks }

-- job 1 holds its section, job 3 preempts it and sleeps, and job 2 comes to wait; 1 ends its section, 2 has its own, and 3 wakes
abbrev pub fair_calls : List Call
fair_calls =
    release 1 ∷ lock 1 0 1 ∷ release 3 ∷ suspend 3 0 ∷ release 2 ∷ unlock 1 0 1 ∷ lock 2 0 1 ∷ unlock 2 0 1 ∷ resume 3 0 ∷ complete 3 0
    ∷ complete 2 0 ∷ complete 1 0 ∷ []

-- through the sleep the holder runs, then the job that waited for it: nothing is idle until all jobs are over
abbrev pub fair_answers : List (ℕ × Running)
fair_answers =
    (0, job 1 0) ∷ (0, job 1 0) ∷ (0, job 3 0) ∷ (0, job 1 0) ∷ (0, job 1 0) ∷ (0, job 2 0) ∷ (0, job 2 0) ∷ (0, job 2 0) ∷ (0, job 3 0)
    ∷ (0, job 2 0) ∷ (0, job 1 0) ∷ (0, idle) ∷ []

-- K on table A, L on table B and the fair's list, computed
pub computed : (answers in_force (table 0) fresh calls_k ≡ answers_k) × (answers in_force (table 1) fresh calls_l ≡ answers_l)
    × (answers in_force fair_table fresh fair_calls ≡ fair_answers)
unfolding answers step fit used named all some running system_priority top ceiling first best largest has without
computed = (refl, refl, refl)
