-- Open sections along the calls, by the place of their task.
use Prim.Native.Nat.{ℕ, ◌<◌}
use mathlib.Core.Path.{◌≡◌, ap, subst, ◌∙◌}
use Rattle.searches.specs.Searches.{at}
use Rattle.protocol.specs.Tasks.{Table, priority}
use Rattle.protocol.specs.Running.{in_force, running}
use Rattle.protocol.specs.Checks.{Call}
use Rattle.protocol.specs.Acting.{section}
use Rattle.protocol.specs.Accepted.{Accepted}
use Rattle.protocol.specs.Trace.{opened, after, event, Open}
use Rattle.protocol.proofs.Chain.{In}
use Rattle.protocol.proofs.Runner.{Runs, runs}
use Rattle.protocol.proofs.Lows.{holder_inside}
use Rattle.protocol.proofs.Sections.{opened_in, opening}
use Rattle.timing.proofs.Jobs.{run, holds_at}

module _ {T : Table} (A : Accepted T) (calls : ℕ → Call) where
  -- an open section is in the state
  pub lies_in : (k o q r : ℕ) → q < T.size → Open (event in_force T calls) o (priority T q) r k
      → In (section q r) (after in_force T calls k).sections
  lies_in k o q r lt w =
      let v = opened_in (run A calls) k w in
      let s : v.0.place ≡ q = A.unique v.0.place q (holder_inside A (holds_at A calls k).sound v.0 v.1) lt v.2 in
      let e : v.0 ≡ section q r = λ z. record { place = s z; resource = v.3 z } in
      subst (λ t. In t (after in_force T calls k).sections) e v.1

  -- the task that opens one runs, and holds nothing
  pub at_lock : (o q r : ℕ) → q < T.size → event in_force T calls o ≡ opened (priority T q) r
      → (running in_force T (after in_force T calls o).entry ≡ at q) × (((after in_force T calls o).entry q).held ≡ 0)
  at_lock o q r lt e =
      let g = opening (run A calls) o (priority T q) r e in
      let R : Runs in_force T (after in_force T calls o) g.by = runs g.runs in
      let s : g.by ≡ q = A.unique g.by q R.inside lt g.names in
      (g.runs ∙ ap at s, subst (λ x. ((after in_force T calls o).entry x).held ≡ 0) s g.free)
