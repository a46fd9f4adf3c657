-- The job that the last reply before a tick named is the running one.
use Prim.Native.Nat.{ℕ, zero, suc, ◌≤◌, ◌<◌}
use mathlib.Core.Path.{◌≡◌, refl, sym, ap, ◌∙◌}
use native.Mathlib.Omega.{arith}
use lib.Dec.{eqb}
use borrow.Author.Tests.{eqb-true, eq-eqb}
use Rattle.searches.specs.Searches.{Place, nowhere, at, only}
use Rattle.searches.proofs.Testing.{impossible}
use Rattle.searches.proofs.Leading.{only_most}
use Rattle.protocol.specs.Tasks.{Table, priority}
use Rattle.protocol.specs.State.{asleep, State, fresh, is_asleep}
use Rattle.protocol.specs.Running.{in_force, running}
use Rattle.protocol.specs.Checks.{Call}
use Rattle.protocol.specs.Step.{number_at}
use Rattle.protocol.specs.Accepted.{Accepted}
use Rattle.protocol.specs.Trace.{after}
use Rattle.protocol.proofs.Testing.{asleep_is}
use Rattle.protocol.proofs.Runner.{lawful, Runs, runs}
use Rattle.protocol.proofs.Theorems.{never_unfit, answers_running}
use Rattle.scheduler.specs.Replies.{running_of}
use Rattle.timing.specs.Statement.{Clock, calls_by, priority_in, seen_under, last_named, executes, rests}
use Rattle.timing.proofs.Counts.{counted}

-- the priority of the job that runs, 0 where none does
abbrev running_priority : Table → State → ℕ
running_priority T s = priority_in (running_of (number_at T s.entry (running in_force T s.entry)))

-- nobody runs before the first call
none_yet : (T : Table) → running_priority T fresh ≡ 0
none_yet T = go (running in_force T fresh.entry) refl
  where
    go : (q : Place) → running in_force T fresh.entry ≡ q → priority_in (running_of (number_at T fresh.entry q)) ≡ 0
    go nowhere e = refl
    go (at j) e = absurd (let R : Runs in_force T fresh j = runs e in impossible (cc R.stands))

module _ {T : Table} (A : Accepted T) (calls : ℕ → Call) where
  -- the last of k replies names the job that runs after it
  last_is : (k : ℕ) → last_named (seen_under in_force T calls) k ≡ running_priority T (after in_force T calls k)
  unfolding after
  last_is zero = sym (none_yet T)
  last_is (suc k) =
      let s = after in_force T calls k in
      ap (λ r. priority_in (running_of r)) (answers_running in_force T s (calls k) (never_unfit in_force lawful T A calls k))

module _ {T : Table} (A : Accepted T) (calls : ℕ → Call) (K : Clock) (i t : ℕ) where
  -- who executes does so once in a tick
  pub executes_once : executes K (seen_under in_force T calls) (priority T i) t ≤ 1
  executes_once = only_most (eqb (last_named (seen_under in_force T calls) (calls_by K t)) (priority T i)) 1

  -- and so does who rests
  pub rests_once : rests K (seen_under in_force T calls) i t ≤ 1
  rests_once = only_most (is_asleep ((after in_force T calls (calls_by K t)).entry i).status) 1

  -- who executes runs
  pub executes_runs : i < T.size → 0 < executes K (seen_under in_force T calls) (priority T i) t
      → running in_force T (after in_force T calls (calls_by K t)).entry ≡ at i
  executes_runs lt h =
      let named = last_named (seen_under in_force T calls) (calls_by K t) in
      go (after in_force T calls (calls_by K t)) (running in_force T (after in_force T calls (calls_by K t)).entry) refl
      (sym (last_is A calls (calls_by K t)) ∙ eqb-true named (priority T i) (counted (eqb named (priority T i)) h))
    where
      go : (s : State) (q : Place) → running in_force T s.entry ≡ q → priority_in (running_of (number_at T s.entry q)) ≡ priority T i → q ≡ at i
      go s nowhere r e = absurd (omega (arith, A.below i lt))
      go s (at j) r e = let R : Runs in_force T s j = runs r in ap at (A.unique j i R.inside lt e)

  -- and who runs executes
  pub runs_executes : running in_force T (after in_force T calls (calls_by K t)).entry ≡ at i
      → executes K (seen_under in_force T calls) (priority T i) t ≡ 1
  runs_executes e =
      let s = after in_force T calls (calls_by K t) in
      let named = last_is A calls (calls_by K t) ∙ ap (λ q. priority_in (running_of (number_at T s.entry q))) e in
      ap (λ b. only b 1) (eq-eqb (last_named (seen_under in_force T calls) (calls_by K t)) (priority T i) named)

  -- who rests is asleep
  pub rests_asleep : 0 < rests K (seen_under in_force T calls) i t → ((after in_force T calls (calls_by K t)).entry i).status ≡ asleep
  rests_asleep h = asleep_is _ (counted _ h)

  -- and who is asleep rests
  pub asleep_rests : ((after in_force T calls (calls_by K t)).entry i).status ≡ asleep → rests K (seen_under in_force T calls) i t ≡ 1
  asleep_rests e = ap (λ x. only (is_asleep x) 1) e
