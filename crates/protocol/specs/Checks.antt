-- The six calls, and what is checked before one is accepted.
use Rattle.std.specs.Prelude.{Bool, true, false, not, ◌&&◌, ℕ, ltb, eqb, length}
use Rattle.searches.specs.Searches.{Place, nowhere, at, first}
use Rattle.protocol.specs.Tasks.{Table, priority}
use Rattle.protocol.specs.State.{Entry, State, serial, holds, is_none, is_asleep}
use Rattle.protocol.specs.Running.{Rule, running}
use Rattle.protocol.specs.Fit.{fit}

-- A call: release by priority, the others by a job's number, which is a priority and a serial; lock and unlock name a resource.
pub data Call : Type 0 where
  release : ℕ → Call
  resume : ℕ → ℕ → Call
  lock : ℕ → ℕ → ℕ → Call
  unlock : ℕ → ℕ → ℕ → Call
  suspend : ℕ → ℕ → Call
  complete : ℕ → ℕ → Call

-- What the checks say: refused with a number, or granted to the job at a place.
pub data Ruling : Type 0 where
  refuse : ℕ → Ruling
  grant : ℕ → Ruling

-- refused with n unless the test passes
abbrev pub demand : ℕ → Bool → Ruling → Ruling
demand n true r = r
demand n false r = refuse n

-- refused with n where there is no place
abbrev pub found : ℕ → Place → (ℕ → Ruling) → Ruling
found n nowhere f = refuse n
found n (at i) f = f i

-- whether the latest job at a place has the number p, n
abbrev pub numbered : Table → (ℕ → Entry) → ℕ → ℕ → ℕ → Bool
numbered T f p n i = eqb (priority T i) p && eqb (serial (f i)) n

-- ---- what is checked of the job at the place i

-- a release: its job must be over
abbrev pub releasing : (ℕ → Entry) → ℕ → Ruling
releasing f i = demand 12 (is_none (f i).status) (grant i)

-- a lock of the resource r: a use of it, no section held and room for one more, N not reached
abbrev pub locking : Table → (ℕ → Entry) → Bool → ℕ → ℕ → Ruling
locking T f room r i =
    demand 14 (ltb 0 ((T.task i).uses r))
    (demand 15 (not (holds (f i)) && room)
    (demand 16 (ltb ((f i).opened r) ((T.task i).uses r)) (grant i)))

-- an unlock of the resource r: the one held
abbrev pub unlocking : (ℕ → Entry) → ℕ → ℕ → Ruling
unlocking f r i = demand 17 (holds (f i) && eqb (f i).held r) (grant i)

-- a suspend: no section held, X not reached
abbrev pub suspending : Table → (ℕ → Entry) → ℕ → Ruling
suspending T f i = demand 18 (not (holds (f i))) (demand 19 (ltb (f i).sleeps (T.task i).most) (grant i))

-- a complete: no section held
abbrev pub completing : (ℕ → Entry) → ℕ → Ruling
completing f i = demand 18 (not (holds (f i))) (grant i)

-- ---- the checks 11 to 20 in their order

-- the calls of the running job are made under its number
abbrev pub by_running : Rule → Table → (ℕ → Entry) → ℕ → ℕ → (ℕ → Ruling) → Ruling
by_running E T f p n more = found 13 (running E T f) (λ i. demand 13 (numbered T f p n i) (more i))

-- over the entries, and whether a section more has room
abbrev pub checked : Rule → Table → (ℕ → Entry) → Bool → Call → Ruling
checked E T f room (release p) = found 11 (first (λ i. eqb (priority T i) p) T.size) (releasing f)
checked E T f room (resume p n) = found 20 (first (λ i. is_asleep (f i).status && numbered T f p n i) T.size) grant
checked E T f room (lock p n r) = by_running E T f p n (locking T f room r)
checked E T f room (unlock p n r) = by_running E T f p n (unlocking f r)
checked E T f room (suspend p n) = by_running E T f p n (suspending T f)
checked E T f room (complete p n) = by_running E T f p n (completing f)

-- at most 16 sections are open at once
abbrev pub checks : Rule → Table → State → Call → Ruling
checks E T s c = checked E T s.entry (ltb (length s.sections) 16) c

-- an unfit state is refused first
abbrev pub ruling : Rule → Table → State → Call → Ruling
ruling E T s c = demand 26 (fit T s) (checks E T s c)
