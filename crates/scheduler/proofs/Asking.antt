-- What is checked of a call of the running job: first its number, and then the rest; and what a granted call has passed.
use Rattle.std.proofs.Common.{◌≡◌, ℕ, ◌<◌, Bool, true, false, Ok, sym, refl, arith}
use Rattle.searches.specs.Searches.{Place, nowhere, at}
use Rattle.searches.proofs.Testing.{impossible}
use Rattle.protocol.specs.Running.{in_force, running}
use Rattle.protocol.specs.Fit.{fit}
use Rattle.protocol.specs.Checks.{Call, Ruling, grant, demand, found, numbered, by_running, checks}
use Rattle.protocol.proofs.Granted.{Granted, granted}
use Rattle.scheduler.specs.declared.Scheduler.{Scheduler}
use Rattle.scheduler.specs.View.{Sized, table_of, entry_of, state_of}
use Rattle.scheduler.specs.Rulings.{by_number, ruling_on, Ruled}
use Rattle.scheduler.proofs.Viewing.{Fit, fit_known}

-- where the number is granted to the place i, the rest is checked of that place
pub checked_rest : (s : Scheduler) (p n i : ℕ) (more : ℕ → Ruling) → grant i ≡ by_number s p n
    → more i ≡ demand 26 (fit (table_of s) (state_of s)) (by_running in_force (table_of s) (entry_of s) p n more)
checked_rest s p n i more e = fits (fit (table_of s) (state_of s)) (running in_force (table_of s) (entry_of s)) e
  where
    numbers : (b : Bool) (j : ℕ) → grant i ≡ demand 13 b (grant j) → more i ≡ demand 13 b (more j)
    numbers true j e = let same : i ≡ j = cc in rw same
    numbers false j e = absurd (impossible cc)

    fits : (b : Bool) (q : Place) → grant i ≡ demand 26 b (found 13 q (λ j. demand 13 (numbered (table_of s) (entry_of s) p n j) (grant j)))
        → more i ≡ demand 26 b (found 13 q (λ j. demand 13 (numbered (table_of s) (entry_of s) p n j) (more j)))
    fits true (at j) e = numbers (numbered (table_of s) (entry_of s) p n j) j e
    fits true nowhere e = absurd (impossible cc)
    fits false q e = absurd (impossible cc)

-- A call that is granted to the place i.
pub record Grants (s : Scheduler) (c : Call) (i : ℕ) : Type 0 where
  pub sized : Sized s
  pub fits : Fit s
  pub place : i < 32
  pub grants : grant i ≡ ruling_on s c
  pub passed : Granted in_force (table_of s) (state_of s) c i

-- so is one whose checks grant it to a place in the arrays
pub grants : {s : Scheduler} {c : Call} {i : ℕ} → Sized s → i < 32 → grant i ≡ ruling_on s c → Grants s c i
grants {s} {c} {i} Z lt e =
    let T = table_of s in
    record {
      sized = Z;
      fits = fit_known s (fits (fit T (state_of s)) e);
      place = lt;
      grants = e;
      passed = granted in_force T (state_of s) c i (sym e);
    }
  where
    fits : (b : Bool) → grant i ≡ demand 26 b (checks in_force (table_of s) (state_of s) c) → b ≡ true
    fits true e = refl
    fits false e = absurd (impossible cc)

-- so is one whose checks the code has found to grant it, by the index of the place
pub grants_index : {s : Scheduler} {c : Call} {i k : ℕ} → k ≡ i → Sized s → Ruled s (ruling_on s c) (Ok i) → Grants s c k
grants_index e Z R = rw e (grants Z (omega (arith, R.granted)) R.same)
