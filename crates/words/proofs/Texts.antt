-- The digits that the library spells are the decimal digits of the definition, and there are at most 20.
use Prim.Native.Nat.{ℕ, zero, suc, ◌+◌, ◌-◌, ◌/◌, ◌%◌, ◌^◌, ◌≤◌, ◌<◌}
use mathlib.Core.Path.{◌≡◌, ap₂}
use mathlib.Core.List.{List, [], ◌∷◌, ◌++◌}
use native.Mathlib.Decide.{dec_le}
use native.Mathlib.Nat.{pow-zero, pow-suc, one-le-pow, pow-le-pow_right}
use native.Mathlib.Omega.{arith}
use Rattle.std.proofs.lemmas.Grind.{common_steps}
use borrow.Author.Tests.{le-ltb}
use Rattle.io.specs.Digits.{hex_digit_ascii, last_digits, IsDigitCount}
use Rattle.words.specs.Text.{digits_in, decimal}

-- a digit below 10 is a figure
figure : (d : ℕ) → d < 10 → hex_digit_ascii d ≡ 48 + d
figure d l = grind (arith, common_steps)

-- the fewest digits, with room for more
spelled : (k m n : ℕ) → k ≤ m → IsDigitCount 10 1 n (suc k) → last_digits 10 (suc k) n ≡ digits_in (suc m) n
unfolding digits_in
spelled zero m n l f = grind (arith, common_steps, f.1, pow-suc 10 0, pow-zero 10)
spelled (suc k) zero n l f = absurd (omega arith)
spelled (suc k) (suc m) n l f =
    let high = pow-suc 10 (suc k) in
    let low = pow-suc 10 k in
    let some : 1 ≤ 10 ^ k = one-le-pow k 10 (omega arith) in
    let one_less : (j : ℕ) → suc j - 1 ≡ j = λ j. omega arith in
    let least : 10 ^ suc k ≤ n = rw (one_less (suc k)) at (f.2 (omega arith)) in
    let rest : IsDigitCount 10 1 (n / 10) (suc k) = (omega arith, omega (arith, f.1), λ e. rw (one_less k) (omega arith)) in
    rw (le-ltb n 10 (omega arith)) (ap₂ (λ (x : List ℕ) (d : ℕ). x ++ (d ∷ [])) (spelled k m (n / 10) (omega arith) rest) (figure (n % 10) (omega arith)))

-- what is spelled of a number in 20 digits at most is its decimal digits
pub decimal_is : (k n : ℕ) → k ≤ 20 → IsDigitCount 10 1 n k → last_digits 10 k n ≡ decimal n
decimal_is zero n l f = absurd (omega (arith, f.0))
decimal_is (suc k) n l f = spelled k 19 n (omega arith) f

-- a number of 64 bits has at most 20 digits
pub digits_most : (k n : ℕ) → n < 18446744073709551616 → IsDigitCount 10 1 n k → k ≤ 20
digits_most k n l f = go (dec_le k 20)
  where
    go : Dec (k ≤ 20) → k ≤ 20
    go (yes h) = h
    go (no h) = absurd (omega (arith, f.2 (omega arith), pow-le-pow_right {n = 10} (omega arith) {i = 20} {j = k - 1} (omega arith)))

-- what is spelled of a number of 64 bits is its decimal digits
pub decimal_spelled : (k n : ℕ) → n < 18446744073709551616 → IsDigitCount 10 1 n k → last_digits 10 k n ≡ decimal n
decimal_spelled k n l f = decimal_is k n (digits_most k n l f) f
