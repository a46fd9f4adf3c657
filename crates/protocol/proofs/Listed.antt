-- Tables and lists of calls that the checker goes through: what they are answered with, and what did not happen between two of them.
use mathlib.Core.Path.{◌≡◌, refl, sym, ◌∙◌}
use mathlib.Core.List.{List, [], ◌∷◌}
use mathlib.Core.Logic.{◌⊎◌}
use mathlib.Core.Bool.{Bool, true, false, not, ◌&&◌, ◌||◌, or-false}
use Prim.Native.Nat.{ℕ, zero, suc, ◌<◌}
use lib.Dec.{ltb, eqb}
use borrow.Author.Tests.{lt-ltb, eqb-true, eq-eqb}
use Rattle.searches.specs.Searches.{at, all}
use Rattle.searches.proofs.Testing.{impossible, and_true, true_and}
use Rattle.searches.proofs.Searching.{all_each}
use Rattle.protocol.specs.Tasks.{Table, priority}
use Rattle.protocol.specs.State.{State, fresh}
use Rattle.protocol.specs.Running.{Rule, running}
use Rattle.protocol.specs.Fit.{fit}
use Rattle.protocol.specs.Checks.{Call, release}
use Rattle.protocol.specs.Step.{Running, step}
use Rattle.protocol.specs.Accepted.{Accepted}
use Rattle.protocol.specs.Trace.{Event, nothing, released, resumed, opened, closed, slept, ended, after, event, Open, Waits, Has}
use Rattle.protocol.specs.ShortWaits.{Counts, Meets}
use Rattle.protocol.proofs.Fitness.{fit_says}
use Rattle.protocol.proofs.Steps.{subject}

-- the refusals and running jobs that a list of calls is answered with
unfoldable pub answers : Rule → Table → State → List Call → List (ℕ × Running)
answers E T s [] = []
answers E T s (c ∷ cs) =
    let r = step E T s c in
    (r.refusal, r.running) ∷ answers E T r.state cs

-- the calls of a list in turn, and after them releases of no task
abbrev pub in_turn : List Call → ℕ → Call
in_turn [] k = release 0
in_turn (c ∷ cs) zero = c
in_turn (c ∷ cs) (suc k) = in_turn cs k

-- ---- tables

-- whether no two tasks have one priority
abbrev different : Table → Bool
different T = all (λ i. all (λ j. eqb i j || not (eqb (priority T i) (priority T j))) T.size) T.size

-- a table that passes this test, and under which a fresh state is fit, is accepted
pub accepted_so : (T : Table) → fit T fresh ≡ true → different T ≡ true → ((i : ℕ) → (T.task i).uses 0 ≡ 0) → Accepted T
accepted_so T f d proper = record {
  few = (fit_says T fresh f).0;
  unique = λ i j li lj e. eqb-true i j (sym (or-false (eqb i j)) ∙ rw (eq-eqb (priority T i) (priority T j) e) at (pair i j li lj));
  below = (fit_says T fresh f).1;
  proper = proper;
}
  where
    pair : (i j : ℕ) → i < T.size → j < T.size → eqb i j || not (eqb (priority T i) (priority T j)) ≡ true
    pair i j li lj =
        all_each (λ j. eqb i j || not (eqb (priority T i) (priority T j))) T.size
        (all_each (λ i. all (λ j. eqb i j || not (eqb (priority T i) (priority T j))) T.size) T.size d i li) j lj

-- ---- events told apart

-- the kind of an event
abbrev kind : Event → ℕ
kind nothing = 0
kind (released p) = 1
kind (resumed p) = 2
kind (opened p r) = 3
kind (closed p r) = 4
kind (slept p) = 5
kind (ended p) = 6

-- the resource that it names
abbrev object : Event → ℕ
object nothing = 0
object (released p) = 0
object (resumed p) = 0
object (opened p r) = r
object (closed p r) = r
object (slept p) = 0
object (ended p) = 0

-- whether two events are the same
abbrev pub is : Event → Event → Bool
is e f = eqb (kind e) (kind f) && (eqb (subject e) (subject f) && eqb (object e) (object f))

-- an event is itself
pub is_itself : (e : Event) → is e e ≡ true
is_itself e =
    true_and (eq-eqb (kind e) (kind e) refl) (true_and (eq-eqb (subject e) (subject e) refl) (eq-eqb (object e) (object e) refl))

-- the event of a kind that names a priority and a resource
abbrev naming : ℕ → ℕ → ℕ → Event
naming zero p r = nothing
naming (suc zero) p r = released p
naming (suc (suc zero)) p r = resumed p
naming (suc (suc (suc zero))) p r = opened p r
naming (suc (suc (suc (suc zero)))) p r = closed p r
naming (suc (suc (suc (suc (suc zero))))) p r = slept p
naming (suc (suc (suc (suc (suc (suc k)))))) p r = ended p

-- an event is that of its kind that names what it names
named_so : (e : Event) → naming (kind e) (subject e) (object e) ≡ e
named_so nothing = refl
named_so (released p) = refl
named_so (resumed p) = refl
named_so (opened p r) = refl
named_so (closed p r) = refl
named_so (slept p) = refl
named_so (ended p) = refl

-- events that pass for the same are so
pub is_so : (e f : Event) → is e f ≡ true → e ≡ f
is_so e f t =
    let a = and_true (eqb (kind e) (kind f)) (eqb (subject e) (subject f) && eqb (object e) (object f)) t in
    let b = and_true (eqb (subject e) (subject f)) (eqb (object e) (object f)) a.1 in
    let k = eqb-true (kind e) (kind f) a.0 in
    let p = eqb-true (subject e) (subject f) b.0 in
    let r = eqb-true (object e) (object f) b.1 in
    sym (named_so e) ∙ rw (k, p, r) (named_so f)

module _ (ev : ℕ → Event) where
  -- whether none of the calls after o and below k brings an event about
  abbrev pub never : Event → ℕ → ℕ → Bool
  never e o k = all (λ j. not (ltb o j && is (ev j) e)) k

  -- so none does
  pub never_so : (e : Event) (o k : ℕ) → never e o k ≡ true → (j : ℕ) → o < j → j < k → ev j ≡ e → ⊥
  never_so e o k n j lo hi q =
      let t : not (ltb o j && is (ev j) e) ≡ true = all_each (λ j. not (ltb o j && is (ev j) e)) k n j hi in
      let f : false ≡ true = rw (lt-ltb o j lo, q, is_itself e) at t in
      impossible cc

  -- a section that no call closes is open
  pub open_still : {o p r k : ℕ} → ev o ≡ opened p r → o < k → never (closed p r) o k ≡ true → Open ev o p r k
  open_still {o} {p} {r} {k} e lt n = record { began = e; made = lt; kept = never_so (closed p r) o k n }

  -- a job that came or woke, and neither slept nor ended since, is in that wait
  pub waits_still : {p a k : ℕ} → (ev a ≡ released p) ⊎ (ev a ≡ resumed p) → a < k → never (slept p) a k ≡ true → never (ended p) a k ≡ true
      → Waits ev p a k
  waits_still {p} {a} {k} e lt m n = record { began = e; made = lt; awake = never_so (slept p) a k m; going = never_so (ended p) a k n }

  -- one that was released, and didn't end, is there
  pub has_still : {p a k : ℕ} → ev a ≡ released p → a < k → never (ended p) a k ≡ true → Has ev p a k
  has_still {p} {a} {k} e lt n = record { began = e; made = lt; going = never_so (ended p) a k n }

module _ (E : Rule) (C : Counts) (T : Table) (calls : ℕ → Call) where
  -- a lower job that runs in a state that counts, with a section open still, is met in it
  pub meets_still : {p o q r k : ℕ} → running E T (after E T calls k).entry ≡ at q → priority T q < p → event E T calls o ≡ opened (priority T q) r
      → o < k → never (event E T calls) (closed (priority T q) r) o k ≡ true → C T (after E T calls k).entry p
      → Meets E C (λ k. T) (after E T calls) (event E T calls) p o k
  meets_still {q} {r} run lt e made n c = record {
    lower = q;
    resource = r;
    sees = record { runs = run; lower = lt };
    has = open_still (event E T calls) e made n;
    counted = c;
  }
