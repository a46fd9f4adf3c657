-- What an accepted call does.
use Rattle.std.specs.Prelude.{List, [], ◌∷◌, ◌++◌, Bool, true, false, ◌&&◌, ◌||◌, ℕ, ◌+◌, ltb, eqb}
use Rattle.searches.specs.Searches.{Place, nowhere, at, only}
use Rattle.protocol.specs.Tasks.{Table, priority}
use Rattle.protocol.specs.State.{Status, none, ready, waiting, asleep, Entry, Section, State, following, is_waiting}
use Rattle.protocol.specs.Running.{top, system_ceiling, Rule, running}
use Rattle.protocol.specs.Checks.{Call, release, resume, lock, unlock, suspend, complete}

-- ---- one entry

abbrev pub pick : Bool → Entry → Entry → Entry
pick true a b = a
pick false a b = b

-- the entry e at the place i, and the others as they were
abbrev pub put : (ℕ → Entry) → ℕ → Entry → ℕ → Entry
put f i e k = pick (eqb k i) e (f k)

abbrev pub become : Status → Entry → Entry
become x e = record { status = x; started = e.started; sleeps = e.sleeps; opened = e.opened; held = e.held; next = e.next }

abbrev pub begun : Entry → Entry
begun e = record { status = e.status; started = true; sleeps = e.sleeps; opened = e.opened; held = e.held; next = e.next }

-- a release begins the job's sleeps, section counts and started mark afresh, and takes the next serial
abbrev pub renewed : Status → Entry → Entry
renewed x e = record { status = x; started = false; sleeps = 0; opened = λ r. 0; held = e.held; next = following e.next }

abbrev pub one_more : (ℕ → ℕ) → ℕ → ℕ → ℕ
one_more f r q = f q + only (eqb q r) 1

abbrev pub locked : ℕ → Entry → Entry
locked r e =
    record { status = e.status; started = e.started; sleeps = e.sleeps; opened = one_more e.opened r; held = r; next = e.next }

abbrev pub freed : Entry → Entry
freed e = record { status = e.status; started = e.started; sleeps = e.sleeps; opened = e.opened; held = 0; next = e.next }

abbrev pub slept : Entry → Entry
slept e = record { status = asleep; started = e.started; sleeps = e.sleeps + 1; opened = e.opened; held = e.held; next = e.next }

abbrev pub admitted_by : Bool → Status
admitted_by true = ready
admitted_by false = waiting

-- ready if the priority is above the ceiling c, else waiting
abbrev pub admitted : Table → ℕ → ℕ → Status
admitted T c i = admitted_by (ltb c (priority T i))

-- the entry of the job itself, under the system ceiling c
abbrev pub own : Table → ℕ → (ℕ → Entry) → Call → ℕ → Entry
own T c f (release p) i = renewed (admitted T c i) (f i)
own T c f (resume p n) i = become (admitted T c i) (f i)
own T c f (lock p n r) i = locked r (f i)
own T c f (unlock p n r) i = freed (f i)
own T c f (suspend p n) i = slept (f i)
own T c f (complete p n) i = become none (f i)

-- ---- the open sections

abbrev pub section : ℕ → ℕ → Section
section i r = record { place = i; resource = r }

abbrev pub same : Section → Section → Bool
same s t = eqb s.place t.place && eqb s.resource t.resource

-- whether a section is in a list
unfoldable pub has : Section → List Section → Bool
has s [] = false
has s (t ∷ l) = same s t || has s l

abbrev pub skip : Bool → List Section → List Section → List Section
skip true l m = l
skip false l m = m

-- the list without the first that is the section s
unfoldable pub without : Section → List Section → List Section
without s [] = []
without s (t ∷ l) = let rest = without s l in skip (same s t) l (t ∷ rest)

-- every task's waiting job above the ceiling c is ready
abbrev pub woken : Table → ℕ → (ℕ → Entry) → ℕ → Entry
woken T c f k = pick (ltb k T.size && (is_waiting (f k).status && ltb c (priority T k))) (become ready (f k)) (f k)

-- the section s closed, and who waited under it woken; where it isn't open nothing more happens
abbrev pub closed : Bool → Table → Section → State → State
closed true T s t =
    record { entry = woken T (top T 0 (without s t.sections)) t.entry; sections = without s t.sections }
closed false T s t = t

-- what a call does besides the job's own entry
abbrev pub moved : Table → Call → ℕ → State → State
moved T (release p) i t = t
moved T (resume p n) i t = t
moved T (lock p n r) i t = record { entry = t.entry; sections = t.sections ++ (section i r ∷ []) }
moved T (unlock p n r) i t = closed (has (section i r) t.sections) T (section i r) t
moved T (suspend p n) i t = t
moved T (complete p n) i t = t

-- ---- the call

-- the call c, granted to the job at the place i
abbrev pub act : Table → State → Call → ℕ → State
act T s c i = moved T c i (record { entry = put s.entry i (own T (system_ceiling T s) s.entry c i); sections = s.sections })

abbrev pub start : Place → State → State
start nowhere s = s
start (at i) s = record { entry = put s.entry i (begun (s.entry i)); sections = s.sections }

-- a job that runs after an accepted call is started in the same call
abbrev pub settle : Rule → Table → State → State
settle E T s = start (running E T s.entry) s
