-- Job numbers: who may make a call, and when a number comes back.
use Rattle.std.specs.Prelude.{◌≡◌, ◌⊎◌, Bool, false, ℕ, zero, suc, ◌+◌, ◌*◌, ◌<◌, eqb}
use Rattle.searches.specs.Searches.{at, only}
use Rattle.protocol.specs.Tasks.{Table}
use Rattle.protocol.specs.State.{State, asleep}
use Rattle.protocol.specs.Running.{Rule, running}
use Rattle.protocol.specs.Checks.{Call, release, resume, lock, unlock, suspend, complete}
use Rattle.protocol.specs.Step.{job, number_at}
use Rattle.protocol.specs.Trace.{Event, nothing, released, resumed, opened, closed, slept, ended}

-- Who is entitled to a call: the running job, by its number; to a resume a sleeping job, by its number; a release names no job.
abbrev pub Entitled : Rule → Table → State → Call → Type 0
Entitled E T s (release p) = Unit {0}
Entitled E T s (resume p n) = (i : ℕ) × (i < T.size) × ((s.entry i).status ≡ asleep) × (number_at T s.entry (at i) ≡ job p n)
Entitled E T s (lock p n r) = number_at T s.entry (running E T s.entry) ≡ job p n
Entitled E T s (unlock p n r) = number_at T s.entry (running E T s.entry) ≡ job p n
Entitled E T s (suspend p n) = number_at T s.entry (running E T s.entry) ≡ job p n
Entitled E T s (complete p n) = number_at T s.entry (running E T s.entry) ≡ job p n

-- whether an event is a release of p
abbrev pub releases_of : ℕ → Event → Bool
releases_of p nothing = false
releases_of p (released q) = eqb p q
releases_of p (resumed q) = false
releases_of p (opened q r) = false
releases_of p (closed q r) = false
releases_of p (slept q) = false
releases_of p (ended q) = false

-- how many of the first k calls are accepted releases of p
unfoldable pub releases : (ℕ → Event) → ℕ → ℕ → ℕ
releases ev p zero = 0
releases ev p (suc k) = releases ev p k + only (releases_of p (ev k)) 1

-- k and m differ by a multiple of 65,536
abbrev pub Wraps : ℕ → ℕ → Type 0
Wraps k m = (d : ℕ) × ((k ≡ m + 65536 * d) ⊎ (m ≡ k + 65536 * d))
