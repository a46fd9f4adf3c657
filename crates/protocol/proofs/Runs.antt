-- Runs: calls on a scheduler, whose table may change between them while no section is open.
use mathlib.Core.Path.{◌≡◌, refl, sym, subst}
use mathlib.Core.List.{[]}
use Prim.Native.Nat.{ℕ, zero, suc, ◌<◌}
use Rattle.protocol.specs.Tasks.{Table, priority}
use Rattle.protocol.specs.State.{State}
use Rattle.protocol.specs.Running.{Rule}
use Rattle.protocol.specs.Checks.{Call}
use Rattle.protocol.specs.Accepted.{Accepted, Lawful}
use Rattle.protocol.specs.Trace.{Event, nothing, after, event}
use Rattle.protocol.proofs.Invariant.{Unfinished, Inv}
use Rattle.protocol.proofs.Runner.{fresh_inv}
use Rattle.protocol.proofs.Called.{Called, called}

-- A change of the table, from T and s to U and t: no section is open, and each unfinished job keeps its entry, at a place of the same priority.
pub record Changed (E : Rule) (T : Table) (s : State) (U : Table) (t : State) : Type 0 where
  pub shut : s.sections ≡ []
  pub shut_after : t.sections ≡ []
  pub inv : Inv E U t
  pub stays : (i : ℕ) → Unfinished (s.entry i) → (j : ℕ) × (j < U.size) × (priority U j ≡ priority T i) × (t.entry j ≡ s.entry i)

-- One step: a call, or a change of the table.
pub data Link (E : Rule) (T U : Table) (s t : State) (e : Event) : Type 0 where
  by_call : U ≡ T → Called E T s e t → Link E T U s t e
  by_change : Changed E T s U t → e ≡ nothing → Link E T U s t e

-- A run under a lawful rule and accepted tables; each step is such a one where the invariant holds before it.
pub record Run (E : Rule) (T : ℕ → Table) (S : ℕ → State) (ev : ℕ → Event) : Type 0 where
  pub lawful : Lawful E
  pub accepted : (k : ℕ) → Accepted (T k)
  pub start : Inv E (T 0) (S 0)
  pub shut : (S 0).sections ≡ []
  pub link : (k : ℕ) → Inv E (T k) (S k) → Link E (T k) (T (suc k)) (S k) (S (suc k)) (ev k)

module _ {E : Rule} {T : ℕ → Table} {S : ℕ → State} {ev : ℕ → Event} (G : Run E T S ev) where
  -- the invariant holds in every state
  pub inv : (k : ℕ) → Inv E (T k) (S k)
  inv zero = G.start
  inv (suc k) = go (G.link k (inv k))
    where
      go : Link E (T k) (T (suc k)) (S k) (S (suc k)) (ev k) → Inv E (T (suc k)) (S (suc k))
      go (by_call q c) = subst (λ U. Inv E U (S (suc k))) (sym q) c.inv
      go (by_change c z) = c.inv

  -- the step that the call k makes
  pub next : (k : ℕ) → Link E (T k) (T (suc k)) (S k) (S (suc k)) (ev k)
  next k = G.link k (inv k)

-- calls on a fresh scheduler make a run
pub calls_run : {E : Rule} → Lawful E → {T : Table} → Accepted T → (calls : ℕ → Call)
    → Run E (λ k. T) (after E T calls) (event E T calls)
unfolding after
calls_run {E} L {T} A calls = record {
  lawful = L;
  accepted = λ k. A;
  start = fresh_inv E T;
  shut = refl;
  link = λ k I. by_call refl (called L A I (calls k));
}
