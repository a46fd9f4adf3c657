-- Which states are fit: a host may hand in one that it made up.
use Rattle.std.specs.Prelude.{List, [], ◌∷◌, Bool, true, ◌&&◌, ℕ, ltb, leb, length}
use Rattle.searches.specs.Searches.{all, some}
use Rattle.protocol.specs.Tasks.{Table, priority, setting}
use Rattle.protocol.specs.State.{Section, State}

-- whether some task uses a resource
unfoldable pub used : Table → ℕ → Bool
used T r = some (λ i. ltb 0 ((T.task i).uses r)) T.size

-- whether every section names a task's place and a resource that some task uses
unfoldable pub named : Table → List Section → Bool
named T [] = true
named T (s ∷ l) = (ltb s.place T.size && used T s.resource) && named T l

-- at most 32 tasks, each setting below its priority, at most 16 open sections, and each of these named
unfoldable pub fit : Table → State → Bool
fit T s =
    leb T.size 32 && (all (λ i. ltb (setting T i) (priority T i)) T.size && (leb (length s.sections) 16 && named T s.sections))
