-- Ceilings, the system priority, and the running job.
use Rattle.std.specs.Prelude.{List, [], ◌∷◌, Bool, not, ◌&&◌, ◌||◌, ℕ, ltb}
use Rattle.searches.specs.Searches.{Place, best, largest, only}
use Rattle.protocol.specs.Tasks.{Table, priority, setting}
use Rattle.protocol.specs.State.{Entry, Section, State, holds, is_none, is_ready}

-- the ceiling of a resource: the highest priority among tasks with a use of it
unfoldable pub ceiling : Table → ℕ → ℕ
ceiling T r = largest (λ i. only (ltb 0 ((T.task i).uses r)) (priority T i)) T.size

-- the ceiling of the last section of a list, or x where there is none
unfoldable pub top : Table → ℕ → List Section → ℕ
top T x [] = x
top T x (s ∷ l) = top T (ceiling T s.resource) l

-- the system ceiling: that of the last opened section still open, else 0
abbrev pub system_ceiling : Table → State → ℕ
system_ceiling T s = top T 0 s.sections

-- the system priority: the largest setting among started, unfinished jobs, sleeping ones included, else 0
unfoldable pub system_priority : Table → (ℕ → Entry) → ℕ
system_priority T f = largest (λ i. only ((f i).started && not (is_none (f i).status)) (setting T i)) T.size

-- A rule says whether a ready job is eligible: by the system priority, its own priority, and whether it holds a section.
abbrev pub Rule : Type 0
Rule = ℕ → ℕ → Bool → Bool

-- the rule in force: a job above the system priority, and one that holds a section, whatever the system priority
abbrev pub in_force : Rule
in_force system p h = ltb system p || h

-- whether the job at a place is ready and eligible
abbrev pub eligible : Rule → Table → (ℕ → Entry) → ℕ → Bool
eligible E T f i = is_ready (f i).status && E (system_priority T f) (priority T i) (holds (f i))

-- the place of the running job: the eligible ready job of highest priority
unfoldable pub running : Rule → Table → (ℕ → Entry) → Place
running E T f = best (eligible E T f) (priority T) T.size
