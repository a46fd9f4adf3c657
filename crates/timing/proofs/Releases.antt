-- A release that comes T or more after the last one of its task finds that job gone, unless its end is called later at the same instant.
use Prim.Native.Nat.{ℕ, suc, ◌+◌, ◌≤◌, ◌<◌}
use mathlib.Core.Path.{◌≡◌, refl, sym, ap, subst}
use mathlib.Core.Bool.{true}
use native.Mathlib.Omega.{arith}
use native.Mathlib.Decide.{dec_lt, ℕ_discrete}
use lib.Dec.{eqb}
use borrow.Author.Tests.{eqb-true}
use Rattle.searches.specs.Searches.{Place, nowhere, at, first}
use Rattle.searches.proofs.Testing.{impossible}
use Rattle.searches.proofs.Searching.{first_found}
use Rattle.protocol.specs.Tasks.{Table, priority}
use Rattle.protocol.specs.State.{Status, none, ready, waiting, asleep, is_none, State}
use Rattle.protocol.specs.Running.{in_force}
use Rattle.protocol.specs.Fit.{fit}
use Rattle.protocol.specs.Checks.{Call, release, grant, demand, found, releasing, ruling}
use Rattle.protocol.specs.Step.{answer, step}
use Rattle.protocol.specs.Accepted.{Accepted}
use Rattle.protocol.specs.Trace.{nothing, outcome, after, event}
use Rattle.protocol.proofs.Invariant.{Unfinished}
use Rattle.protocol.proofs.Runner.{lawful}
use Rattle.protocol.proofs.Theorems.{never_unfit}
use Rattle.timing.specs.Statement.{Clock, seen_under, OverWithin, AtTheInstant, ReleasedAgain}
use Rattle.timing.proofs.Instants.{first_rises, made_by}
use Rattle.timing.proofs.Jobs.{There, live_there, no_second}

-- a release that is refused with 12 finds a job, and brings nothing about
refused_live : {T : Table} → Accepted T → (s : State) → fit T s ≡ true → (i : ℕ) → i < T.size
    → (step in_force T s (release (priority T i))).refusal ≡ 12
    → Unfinished (s.entry i) × (outcome (ruling in_force T s (release (priority T i))) (release (priority T i)) ≡ nothing)
unfolding step
refused_live {T} A s f i lt e = rw f (go (first (λ k. eqb (priority T k) p) T.size) refl (rw f at e))
  where
    p : ℕ
    p = priority T i

    held : (j : ℕ) (x : Status) → (s.entry j).status ≡ x → j ≡ i → (answer in_force T s (release p) (demand 12 (is_none x) (grant j))).refusal ≡ 12
        → Unfinished (s.entry i) × (outcome (demand 12 (is_none x) (grant j)) (release p) ≡ nothing)
    held j none q same e = absurd (omega arith)
    held j ready q same e = (λ z. impossible (cc (q, ap (λ k. (s.entry k).status) same, z)), refl)
    held j waiting q same e = (λ z. impossible (cc (q, ap (λ k. (s.entry k).status) same, z)), refl)
    held j asleep q same e = (λ z. impossible (cc (q, ap (λ k. (s.entry k).status) same, z)), refl)

    go : (q : Place) → first (λ k. eqb (priority T k) p) T.size ≡ q
        → (answer in_force T s (release p) (found 11 q (releasing s.entry))).refusal ≡ 12
        → Unfinished (s.entry i) × (outcome (found 11 q (releasing s.entry)) (release p) ≡ nothing)
    go nowhere q e = absurd (omega arith)
    go (at j) q e =
        let w = first_found (λ k. eqb (priority T k) p) T.size j q in
        held j (s.entry j).status refl (A.unique j i w.0 lt (eqb-true (priority T j) p w.1)) e

module _ {T : Table} (A : Accepted T) (calls : ℕ → Call) (K : Clock) {i a b t u period : ℕ} (lt : i < T.size)
    (again : ReleasedAgain calls K (seen_under in_force T calls) (priority T i) a b t u period)
    (refused : (step in_force T (after in_force T calls b) (calls b)).refusal ≡ 12)
  where
    -- the job is there, and the release brings nothing about
    found_live : Unfinished ((after in_force T calls b).entry i) × (event in_force T calls b ≡ nothing)
    found_live =
        let s = after in_force T calls b in
        subst (λ c. (step in_force T s c).refusal ≡ 12 → Unfinished (s.entry i) × (outcome (ruling in_force T s c) c ≡ nothing)) (sym again.asks)
        (refused_live A s (never_unfit in_force lawful T A calls b) i lt) refused

    -- it is the last job that was released
    still_there : There A calls i a b
    still_there =
        let w = live_there A calls i b lt found_live.0 in
        subst (λ x. There A calls i x b) (same w.0 w.1 (dec_lt a w.0) (dec_lt w.0 a)) w.1
      where
        same : (x : ℕ) → There A calls i x b → Dec (a < x) → Dec (x < a) → x ≡ a
        same x h (yes l) d = absurd (again.none_between x l h.made h.began)
        same x h (no l) (yes m) = absurd (no_second A calls i x a b lt h again.last m again.order)
        same x h (no l) (no m) = omega arith

    -- so its end, within the bound, is called later at that instant
    pub refused_at : {v : ℕ} → v ≤ period → OverWithin K (seen_under in_force T calls) (priority T i) a t v
        → AtTheInstant K (seen_under in_force T calls) (priority T i) b t u v period
    refused_at {v} le over = record {
      just_then = omega (arith, again.apart, instant);
      bound_whole = omega (arith, again.apart, instant);
      call = over.0;
      later = after_it;
      same = record {
        from = omega (arith, again.asked_at.from, after_it);
        till = omega (arith, over.2, first_rises K (suc (t + v)) (suc u) (omega (arith, again.apart)));
      };
      ends = over.3;
    }
      where
        after_it : b < over.0
        after_it = go (dec_lt over.0 b) (ℕ_discrete over.0 b)
          where
            go : Dec (over.0 < b) → Dec (over.0 ≡ b) → b < over.0
            go (yes l) d = absurd (still_there.going over.0 over.1 l over.3)
            go (no l) (yes q) = absurd (impossible (cc (found_live.1, over.3)))
            go (no l) (no q) = omega arith

        instant : u ≤ t + v
        instant = made_by K b u (t + v) again.asked_at (omega (arith, over.2, after_it))
