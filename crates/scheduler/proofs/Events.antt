-- A reply's refusal tells what the call brought about: no refusal of the machine is 0.
use Rattle.std.proofs.Common.{◌≡◌, ℕ, eqb, refl, ap, ◌∙◌, arith, ne_eqb}
use Rattle.protocol.specs.Tasks.{Table}
use Rattle.protocol.specs.State.{State}
use Rattle.protocol.specs.Running.{Rule}
use Rattle.protocol.specs.Checks.{Call, grant, ruling}
use Rattle.protocol.specs.Step.{answer, step}
use Rattle.protocol.specs.Trace.{outcome}
use Rattle.arrays.specs.Denials.{denial_of, refusal_number}
use Rattle.scheduler.specs.Driven.{event_if}
use Rattle.scheduler.proofs.Naming.{told_above, by_ruling, refusal_kept}

module _ (E : Rule) (T : Table) (s : State) (c : Call) where
  -- what the refusal tells is what the call brings about
  pub event_told : event_if (eqb (refusal_number (denial_of (step E T s c).refusal)) 0) c ≡ outcome (ruling E T s c) c
  unfolding step
  event_told =
      ap (λ n. event_if (eqb n 0) c) (refusal_kept E T s c)
      ∙ by_ruling E T s c (λ q. event_if (eqb (answer E T s c q).refusal 0) c ≡ outcome q c)
      (λ n t. rw (ne_eqb n 0 (λ e. omega (arith, told_above t)))) (λ i. refl)

  -- a reply without a refusal is of a granted call
  pub granted_to : (step E T s c).refusal ≡ 0 → (i : ℕ) × (ruling E T s c ≡ grant i)
  unfolding step
  granted_to =
      by_ruling E T s c (λ q. (answer E T s c q).refusal ≡ 0 → (i : ℕ) × (q ≡ grant i))
      (λ n t e. absurd (omega (arith, told_above t))) (λ i e. (i, refl))
