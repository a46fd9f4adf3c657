-- One round of the rounds, as the code makes it.
use Prim.Native.Nat.{ℕ, ◌≤◌, ◌<◌}
use mathlib.Core.Path.{◌≡◌, sym, ap, subst, ◌∙◌}
use mathlib.Core.Bool.{Bool, true, false}
use mathlib.Core.List.{List}
use native.Mathlib.Omega.{arith}
use Rattle.rounds.specs.System.{System, Lawful}
use Rattle.rounds.specs.Vector.{sum}
use Rattle.rounds.specs.Rounds.{Progress, round, begin, analysis}
use Rattle.rounds.specs.RoundsLoop.{Going}
use Rattle.rounds.proofs.RoundsLoop.{going_start, going_over, going_next, going_less, going_end, going_answers}
use Rattle.analysis.specs.Rounding.{progress, bounded, Left, Final}

module _ (S : System) (L : Lawful S) (allowance : ℕ) where
  -- the rounds begin at the deadlines
  pub begins : (v : List ℕ) (made : ℕ) → progress v made ≡ begin S → Going S allowance (progress v made)
  begins v made e = subst (Going S allowance) (sym e) (going_start S L allowance)

  module _ (v : List ℕ) (made : ℕ) (g : Going S allowance (progress v made)) where
    -- where a round passes the allowance, so does the analysis
    pub spent_here : allowance < (round S (progress v made)).evaluations → allowance < (analysis S).evaluations
    spent_here = going_over S L allowance (progress v made) g

    module _ (w : List ℕ) (bounds : List Bool) (e : ℕ) where
      -- the round changes a value: on with the next
      pub round_on : Left allowance S (progress v made) w bounds e true → Going S allowance (progress w e) × (sum w < sum v)
      round_on left =
          let done = left.done in
          let count : (round S (progress v made)).evaluations ≤ allowance = omega (arith, left.counted, ap (λ (p : Progress). p.evaluations) done) in (
            subst (Going S allowance) (sym done) (going_next S L allowance (progress v made) g (sym left.told) count),
            omega (arith, ap (λ (p : Progress). sum p.vector) done, going_less S L allowance (progress v made) g (sym left.told)),
          )

      -- it changes none: it is the last
      pub last_round : Left allowance S (progress v made) w bounds e false → Final allowance S w bounds e
      last_round left = record {
        done = left.done ∙ sym (going_end S L allowance (progress v made) g (sym left.told));
        counted = left.counted;
        bounds_are = λ i p. left.bounds_are i p ∙ ap bounded (sym (going_answers S L allowance (progress v made) g (sym left.told) i));
      }
