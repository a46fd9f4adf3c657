-- The solver of one task: t climbs from the start until the right side gives it back, or passes the deadline.
use Rattle.std.specs.Prelude.{cond, ℕ, zero, suc, ◌+◌, eqb, ltb}
use Rattle.rounds.specs.Answer.{Answer, bound, none}

-- An answer, with the number of right sides evaluated so far.
pub record Reply : Type 0 where
  pub answer : Answer
  pub evaluations : ℕ

-- With fuel k and e evaluations made, the right side g is evaluated at t: equal gives the bound, above the deadline d gives none, else it becomes t.
unfoldable pub climb : (ℕ → ℕ) → ℕ → ℕ → ℕ → ℕ → Reply
climb g d zero t e = record { answer = none; evaluations = e }
climb g d (suc k) t e =
    let u = g t in
    let onward = climb g d k u (e + 1) in
    let unequal = cond (ltb d u) (record { answer = none; evaluations = e + 1 }) onward in
    cond (eqb u t) (record { answer = bound t; evaluations = e + 1 }) unequal

-- t starts at s: none at once where that is above the deadline.
unfoldable pub solve : (ℕ → ℕ) → ℕ → ℕ → ℕ → Reply
solve g d s e =
    let climbed = climb g d (suc d) s e in
    cond (ltb d s) (record { answer = none; evaluations = e }) climbed
