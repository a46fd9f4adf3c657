-- The window of a job that is late, and the ticks of it in which a lower task runs.
use Prim.Native.Nat.{ℕ, ◌+◌, ◌-◌, ◌≤◌, ◌<◌}
use mathlib.Core.Path.{◌≡◌}
use mathlib.Core.Bool.{Bool, false, not, ◌&&◌}
use native.Mathlib.Omega.{arith}
use lib.Dec.{ltb, leb}
use Rattle.searches.specs.Searches.{Place, nowhere, at, only}
use Rattle.protocol.specs.Tasks.{Table, priority}
use Rattle.protocol.specs.State.{State, holds, is_asleep}
use Rattle.protocol.specs.Running.{ceiling}
use Rattle.protocol.specs.Trace.{released}
use Rattle.timing.specs.Statement.{At}
use Rattle.timing.proofs.Instants.{in_order}
use Rattle.timing.proofs.Given.{Given, ev, tick, during, runner, value, There}
use Rattle.timing.proofs.Pace.{Done, Before}
use Rattle.timing.proofs.Start.{Start}

-- The job of i that the call a released at the instant r is there in the tick m, was due by then, and something is left of it; m is the first tick in
-- which this is so of any job. Its window begins at the instant b.
pub record Window (G : Given) (m i a r b : ℕ) : Type 0 where
  pub before : Before G m
  pub inside : i < G.table.size
  pub release : ev G a ≡ released (priority G.table i)
  pub when : At G.clock a r
  pub due : r + value G i ≤ m
  pub left : Done G i r (m - r) → ⊥
  pub late : There G i a (tick G m)
  pub start : Start G i a
  pub from : At G.clock start.index b

-- whether the task at a place is below i and inside a section whose ceiling reaches i
abbrev pub low_at : Table → State → ℕ → Place → Bool
low_at T s i nowhere = false
low_at T s i (at q) = ltb (priority T q) (priority T i) && (holds (s.entry q) && leb (priority T i) (ceiling T (s.entry q).held))

-- 1 in a tick in which such a one runs, and i isn't asleep
abbrev pub low_tick : Given → ℕ → ℕ → ℕ
low_tick G i t = only (not (is_asleep ((during G t).entry i).status) && low_at G.table (during G t) i (runner G t)) 1

module _ {G : Given} {m i a r b : ℕ} (D : Window G m i a r b) where
  -- the window begins at the release at the latest, and so V ticks of it end at m at the latest
  pub window_end : b + value G i ≤ m
  window_end = omega (arith, in_order G.clock D.start.index a b r D.start.early D.from D.when, D.due)
