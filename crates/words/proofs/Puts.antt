-- Texts put one after the other are their texts put together.
use Prim.Native.Nat.{ℕ, ◌+◌, ◌≤◌}
use mathlib.Core.Path.{◌≡◌, ◌∙◌}
use mathlib.Core.List.{List, [], ◌++◌}
use native.Mathlib.Omega.{arith}
use lib.ListN.{length, take, drop}
use lib.Seq.{length-take-le, drop-append-add}
use Rattle.std.proofs.lemmas.Grind.{common_steps}
use Rattle.io.specs.Counts.{IsPrefixLen}
use Rattle.words.specs.Writing.{Put}

-- no text put anywhere: the buffer stays
pub put_none : (o : List ℕ) (at : ℕ) → Put o at [] o at
put_none o at = record { end = grind (arith, common_steps); holds = grind (arith, common_steps) }

-- up to where a text ends stands what stood before it, and the text
pub put_front : (o : List ℕ) (at : ℕ) (t after : List ℕ) (r : ℕ) → at + length t ≤ length o → Put o at t after r → take r after ≡ take at o ++ t
put_front o at t after r l p = rw (p.holds, p.end) (grind (arith, common_steps))

-- a buffer stays as long as it was
pub put_length : (o : List ℕ) (at : ℕ) (t after : List ℕ) (r : ℕ) → at + length t ≤ length o → Put o at t after r → length after ≡ length o
put_length o at t after r l p = rw p.holds (grind (arith, common_steps))

-- a text put where another ended: both together
pub put_then : (o : List ℕ) (at : ℕ) (t u o₁ o₂ : List ℕ) (r₁ r₂ : ℕ) → at + length t ≤ length o
    → Put o at t o₁ r₁ → Put o₁ r₁ u o₂ r₂ → Put o at (t ++ u) o₂ r₂
put_then o at t u o₁ o₂ r₁ r₂ l p q = record {
  end = rw (q.end, p.end) (grind (arith, common_steps));
  holds = rw (q.holds, put_front o at t o₁ r₁ l p, past) (grind (arith, common_steps));
}
  where
    past : drop (r₁ + length u) o₁ ≡ drop (at + length (t ++ u)) o
    past =
        let z : r₁ + length u ≡ length (take at o) + (length t + length u) = omega (arith, p.end, length-take-le at o (omega arith)) in
        rw (p.holds, z) (drop-append-add (take at o) (t ++ drop (at + length t) o) (length t + length u)
        ∙ drop-append-add t (drop (at + length t) o) (length u) ∙ grind (arith, common_steps))

-- a text put at the front ends within the buffer
pub put_counts : (o t after : List ℕ) (r : ℕ) → Put o 0 t after r → IsPrefixLen r after
put_counts o t after r p = rw (p.holds, p.end) (grind (arith, common_steps), grind (arith, common_steps))
