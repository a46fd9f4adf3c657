-- What the analysis of a table's bytes answers under an allowance of evaluations.
use Rattle.std.specs.Prelude.{ℕ, ◌-◌, Bool, false, List, ◌++◌, replicate, Some, None, Ok, Err}
use Rattle.searches.specs.Searches.{all}
use Rattle.searches.specs.Indexed.{every}
use Rattle.table.specs.declared.Refusal.{Refusal}
use Rattle.table.specs.declared.Shape.{Shape}
use Rattle.table.specs.declared.Why.TheVariants.{Allowance}
use Rattle.table.specs.Reading.{Reading, read_table}
use Rattle.rounds.specs.System.{System}
use Rattle.rounds.specs.Rounds.{Progress, answer}
use Rattle.rounds.specs.Allowance.{Allowed, within, beyond, allowed}
use Rattle.equations.specs.View.{own_view}
use Rattle.equations.specs.Equations.{system_of}
use Rattle.analysis.specs.declared.Analysis.{Analysis}
use Rattle.analysis.specs.Rounding.{bounded}

-- the equations of a table under the settings that its bytes name
abbrev pub own_system : List ℕ → Shape → System
own_system s h = system_of (own_view s h)

-- a refusal: no tasks, no verdict, and everything else 0
abbrev pub refused_by : Refusal → Analysis
refused_by f = record { refusal = Some f; tasks = 0; verdict = false; evaluations = 0; values = replicate 32 0; bounds = replicate 32 false }

-- the verdict is yes where every task has a bound
abbrev pub verdict_of : List ℕ → Shape → Bool
verdict_of s h = all (λ i. bounded (answer (own_system s h) i)) h.tasks

-- where the rounds came to their end: the verdict, the total, the final vector, and which tasks have a bound
abbrev pub done_by : List ℕ → Shape → Progress → Analysis
done_by s h final = record {
  refusal = None;
  tasks = h.tasks;
  verdict = verdict_of s h;
  evaluations = final.evaluations;
  values = final.vector ++ replicate (32 - h.tasks) 0;
  bounds = every (λ i. bounded (answer (own_system s h) i)) h.tasks 0 ++ replicate (32 - h.tasks) false;
}

-- under the allowance: the whole analysis, or refused with 8
abbrev pub allowed_as : List ℕ → Shape → Allowed → Analysis
allowed_as s h (within final) = done_by s h final
allowed_as s h beyond = refused_by (record { why = Allowance; place = 0 })

-- by what the bytes are read as: refused with 1 to 7, or analysed under the allowance
unfoldable pub analysed_as : Reading → List ℕ → ℕ → Analysis
analysed_as (Err f) s allowance = refused_by f
analysed_as (Ok h) s allowance = allowed_as s h (allowed (own_system s h) allowance)

-- the analysis of a table's bytes
abbrev pub analysed : List ℕ → ℕ → Analysis
analysed s allowance = analysed_as (read_table s) s allowance
