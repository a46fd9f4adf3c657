-- Every refusal of the machine has a name, and only an unfit state is refused as one.
use Rattle.std.proofs.Common.{◌≡◌, ℕ, ◌<◌, Bool, true, false, not, ◌&&◌, ltb, eqb, length, Some, ap, refl, sym, ◌∙◌, arith}
use Rattle.searches.specs.Searches.{Place, nowhere, at, first}
use Rattle.protocol.specs.Tasks.{Table, priority}
use Rattle.protocol.specs.State.{Entry, State, holds, is_none, is_asleep}
use Rattle.protocol.specs.Running.{Rule, running}
use Rattle.protocol.specs.Fit.{fit}
use Rattle.protocol.specs.Checks.{Call, release, resume, lock, unlock, suspend, complete, Ruling, refuse, grant, demand, found, numbered, checked, checks, ruling}
use Rattle.protocol.specs.Step.{answer, step}
use Rattle.arrays.specs.declared.denial.Denial.{Denial}
use Rattle.arrays.specs.declared.denial.Denial.TheVariants.{NoTask, Unfinished, Stranger, NoUse, Held, Reached, NotHeld, Inside, Sleepless, NoSleeper, Unfit}
use Rattle.arrays.specs.Denials.{denial_number, denial_of, refusal_number, denial_back}

-- A number that a refusal has.
pub record Told (n : ℕ) : Type 0 where
  pub denial : Denial
  pub number : denial_number denial ≡ n

-- no refusal has the number 0
pub told_above : {n : ℕ} → Told n → 0 < n
told_above t = omega (arith, above t.denial, t.number)
  where
    above : (d : Denial) → 0 < denial_number d
    above NoTask = omega arith
    above Unfinished = omega arith
    above Stranger = omega arith
    above NoUse = omega arith
    above Held = omega arith
    above Reached = omega arith
    above NotHeld = omega arith
    above Inside = omega arith
    above Sleepless = omega arith
    above NoSleeper = omega arith
    above Unfit = omega arith

-- the number of the refusal that has a number is that number
told_kept : {n : ℕ} → Told n → refusal_number (denial_of n) ≡ n
told_kept t =
    ap (λ n. refusal_number (denial_of n)) (sym t.number) ∙ ap refusal_number (denial_back t.denial) ∙ t.number

-- only an unfit state has the number 26
pub unfit_is : (d : Denial) → denial_number d ≡ 26 → d ≡ Unfit
unfit_is d e = let w : Some d ≡ Some Unfit = sym (denial_back d) ∙ ap denial_of e in cc

-- ---- the checks of each call

-- A ruling that refuses does so with the number of a refusal, but not with that of an unfit state.
abbrev pub Named : Ruling → Type 0
Named (refuse n) = Told n × (n < 26)
Named (grant i) = Unit {0}

-- by a name
pub named_as : (d : Denial) → denial_number d < 26 → Named (refuse (denial_number d))
named_as d h = (record { denial = d; number = refl }, h)

-- a demand keeps that
demanded : (d : Denial) (b : Bool) (r : Ruling) → denial_number d < 26 → Named r → Named (demand (denial_number d) b r)
demanded d true r h p = p
demanded d false r h p = named_as d h

-- and so does a search
searched : (d : Denial) (p : Place) (f : ℕ → Ruling) → denial_number d < 26 → ((i : ℕ) → Named (f i)) → Named (found (denial_number d) p f)
searched d nowhere f h p = named_as d h
searched d (at i) f h p = p i

module _ (E : Rule) (T : Table) (f : ℕ → Entry) (room : Bool) where
  -- the running job's calls, by what they check after the number
  after_number : (p n : ℕ) (g : ℕ → Ruling) → ((i : ℕ) → Named (g i)) → Named (found 13 (running E T f) (λ i. demand 13 (numbered T f p n i) (g i)))
  after_number p n g h =
      searched Stranger (running E T f) _ (omega arith) (λ i. demanded Stranger (numbered T f p n i) (g i) (omega arith) (h i))

  -- each call's checks
  checked_named : (c : Call) → Named (checked E T f room c)
  checked_named (release p) =
      searched NoTask (first (λ i. eqb (priority T i) p) T.size) _ (omega arith)
      (λ i. demanded Unfinished (is_none (f i).status) (grant i) (omega arith) tt)
  checked_named (resume p n) =
      searched NoSleeper (first (λ i. is_asleep (f i).status && numbered T f p n i) T.size) grant (omega arith) (λ i. tt)
  checked_named (lock p n r) =
      after_number p n _
      (λ i.
      demanded NoUse (ltb 0 ((T.task i).uses r)) _ (omega arith)
      (demanded Held (not (holds (f i)) && room) _ (omega arith)
      (demanded Reached (ltb ((f i).opened r) ((T.task i).uses r)) (grant i) (omega arith) tt)))
  checked_named (unlock p n r) =
      after_number p n _ (λ i. demanded NotHeld (holds (f i) && eqb (f i).held r) (grant i) (omega arith) tt)
  checked_named (suspend p n) =
      after_number p n _
      (λ i.
      demanded Inside (not (holds (f i))) _ (omega arith)
      (demanded Sleepless (ltb (f i).sleeps (T.task i).most) (grant i) (omega arith) tt))
  checked_named (complete p n) = after_number p n _ (λ i. demanded Inside (not (holds (f i))) (grant i) (omega arith) tt)

-- ---- the whole ruling

module _ (E : Rule) (T : Table) (s : State) (c : Call) where
  -- where the state is fit
  pub checks_named : Named (checks E T s c)
  checks_named = checked_named E T s.entry (ltb (length s.sections) 16) c

  -- A ruling that refuses has the number of a refusal.
  abbrev Whole : Ruling → Type 0
  Whole (refuse n) = Told n
  Whole (grant i) = Unit {0}

  -- so has every ruling
  ruling_whole : Whole (ruling E T s c)
  ruling_whole = fits (fit T s) (checks E T s c) checks_named
    where
      fits : (b : Bool) (r : Ruling) → Named r → Whole (demand 26 b r)
      fits true (refuse n) h = h.0
      fits true (grant i) h = tt
      fits false r h = record { denial = Unfit; number = refl }

  -- of each ruling it is so that
  pub by_ruling : (Q : Ruling → Type 0) → ((n : ℕ) → Told n → Q (refuse n)) → ((i : ℕ) → Q (grant i)) → Q (ruling E T s c)
  by_ruling Q f g = go (ruling E T s c) ruling_whole
    where
      go : (q : Ruling) → Whole q → Q q
      go (refuse n) t = f n t
      go (grant i) t = g i

  -- the name loses nothing: its number is the machine's
  pub refusal_kept : refusal_number (denial_of (step E T s c).refusal) ≡ (step E T s c).refusal
  unfolding step
  refusal_kept = by_ruling (λ q. refusal_number (denial_of (answer E T s c q).refusal) ≡ (answer E T s c q).refusal) (λ n t. told_kept t) (λ i. refl)
