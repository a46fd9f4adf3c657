-- What holds of every state that calls reach.
use mathlib.Core.Path.{◌≡◌}
use mathlib.Core.List.{List}
use mathlib.Core.Bool.{true}
use Prim.Native.Nat.{ℕ, ◌≤◌, ◌<◌}
use lib.ListN.{length}
use Rattle.searches.specs.Searches.{at}
use Rattle.protocol.specs.Tasks.{Table, priority, setting}
use Rattle.protocol.specs.State.{none, ready, waiting, asleep, Entry, Section, State}
use Rattle.protocol.specs.Running.{top, Rule, running}
use Rattle.protocol.specs.Acting.{section}
use Rattle.protocol.proofs.Chain.{In, low, high, Chain}

-- There is a job, and it isn't finished.
abbrev pub Unfinished : Entry → Type 0
Unfinished e = e.status ≡ none → ⊥

-- I1: the job that has the section t open is ready and started, holds just that resource, and its task has a use of it.
pub record Holder (T : Table) (t : Section) (e : Entry) : Type 0 where
  pub stands : e.status ≡ ready
  pub started : e.started ≡ true
  pub held : e.held ≡ t.resource
  pub uses : 0 < (T.task t.place).uses t.resource

-- What holds of the entry e at the place i, with the open sections l.
pub record Fits (T : Table) (l : List Section) (i : ℕ) (e : Entry) : Type 0 where
  -- Jobs are at the table's places.
  pub inside : Unfinished e → i < T.size
  -- I2: a held mark has its open section.
  pub mark : (e.held ≡ 0 → ⊥) → In (section i e.held) l
  -- I4: a waiting job is not above the system ceiling.
  pub waits : e.status ≡ waiting → priority T i ≤ top T 0 l
  -- I5: a ready job above a holder is above the ceiling of what that holds.
  pub gap : e.status ≡ ready → (t : Section) → In t l → low T t < priority T i → high T t < priority T i
  -- I6: so is a started job whose setting reaches the holder.
  pub reach : e.started ≡ true → Unfinished e → (t : Section) → In t l → low T t ≤ setting T i → high T t < priority T i
  -- I8: a job that is asleep, or has slept, is started.
  pub dozed : e.status ≡ asleep → e.started ≡ true
  pub rested : Unfinished e → 0 < e.sleeps → e.started ≡ true

-- What holds of the entries and the open sections together.
pub record Sound (T : Table) (s : State) : Type 0 where
  pub each : (i : ℕ) → Fits T s.sections i (s.entry i)
  pub holder : (t : Section) → In t s.sections → Holder T t (s.entry t.place)
  -- I3: each holder is above the ceiling before it.
  pub chain : Chain T 0 s.sections
  pub room : length s.sections ≤ 16

-- I7: the running job is started.
abbrev pub Started : Rule → Table → State → Type 0
Started E T s = (i : ℕ) → running E T s.entry ≡ at i → (s.entry i).started ≡ true

-- The whole.
pub record Inv (E : Rule) (T : Table) (s : State) : Type 0 where
  pub sound : Sound T s
  pub started : Started E T s
