-- Laws of the allowance: refused exactly when the total is larger, and a larger allowance never alters an answer already given.
use Rattle.std.specs.Prelude.{◌≡◌, ◌↔◌, ℕ, ◌≤◌, ◌<◌}
use Rattle.std.proofs.Common.{sym, ◌∙◌, arith, le-leb}
use Rattle.std.proofs.Math.Decide.{dec_le}
use Rattle.std.proofs.lemmas.Bool.{lt-leb}
use Rattle.searches.proofs.Testing.{impossible}
use Rattle.rounds.specs.Allowance.{within, beyond, allowed}
use Rattle.rounds.specs.Rounds.{Progress, analysis}
use Rattle.rounds.specs.System.{System}

module _ (S : System) (allowance : ℕ) where
  -- A total within the allowance is answered by the analysis.
  pub within_allowed : (analysis S).evaluations ≤ allowance → allowed S allowance ≡ within (analysis S)
  unfolding allowed
  within_allowed h = rw (le-leb (analysis S).evaluations allowance h)

  -- A larger total is refused.
  pub beyond_refused : allowance < (analysis S).evaluations → allowed S allowance ≡ beyond
  unfolding allowed
  beyond_refused h = rw (lt-leb (analysis S).evaluations allowance h)

  -- What is answered is the analysis, with a total within the allowance.
  pub allowed_within : (s : Progress) → allowed S allowance ≡ within s → (s ≡ analysis S) × ((analysis S).evaluations ≤ allowance)
  allowed_within s q = go (dec_le (analysis S).evaluations allowance)
    where
      go : Dec ((analysis S).evaluations ≤ allowance) → (s ≡ analysis S) × ((analysis S).evaluations ≤ allowance)
      go (yes p) = let e : within (analysis S) ≡ within s = sym (within_allowed p) ∙ q in (cc, p)
      go (no p) =
          let e : beyond ≡ within s = sym (beyond_refused (omega arith)) ∙ q in
          absurd (impossible cc)

  -- Refused exactly when the total is larger than the allowance.
  pub refused_exactly : (allowed S allowance ≡ beyond) ↔ (allowance < (analysis S).evaluations)
  refused_exactly = (λ q. go q (dec_le (analysis S).evaluations allowance), beyond_refused)
    where
      go : allowed S allowance ≡ beyond → Dec ((analysis S).evaluations ≤ allowance) → allowance < (analysis S).evaluations
      go q (no p) = omega arith
      go q (yes p) =
          let e : within (analysis S) ≡ beyond = sym (within_allowed p) ∙ q in
          absurd (impossible cc)

-- A larger allowance never alters an answer already given.
pub allowed_larger : (S : System) (a b : ℕ) (s : Progress) → a ≤ b → allowed S a ≡ within s → allowed S b ≡ within s
allowed_larger S a b s h q =
    let r = allowed_within S a s q in
    rw r.0 (within_allowed S b (omega arith))
