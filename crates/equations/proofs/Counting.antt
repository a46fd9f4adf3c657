-- Laws of quotients rounded up.
use Prim.Native.Nat.{ℕ, zero, suc, ◌+◌, ◌-◌, ◌*◌, ◌/◌, ◌%◌, min, ◌≤◌, ◌<◌}
use Rattle.std.proofs.lemmas.Grind.{div_ceil_times}
use native.Mathlib.Nat.{div-eq_of_lt-le}
use mathlib.Core.Path.{◌≡◌, ap, sym}
use native.Mathlib.Nat.{le_trans, le-div_iff_mul-le, div-mul-le_self, div-zero, div-lt_iff_lt-mul, div-eq-sub-div, div-eq_of_lt}
use native.Mathlib.Nat.{mul-le-mul, mul-le-mul_left, mul-one, one-mul, add-mul}
use native.Mathlib.Omega.{arith}
use native.Mathlib.Decide.{dec_le}
use Rattle.equations.specs.Counting.{ceil}

-- a quotient rises with what is divided
div_mono : (a c b : ℕ) → a ≤ c → a / b ≤ c / b
div_mono a c zero h = rw (div-zero a) (omega arith)
div_mono a c (suc b) h = (le-div_iff_mul-le {k = suc b} {x = a / suc b} {y = c} (omega arith)).1 (le_trans (div-mul-le_self a (suc b)) h)

-- so does one rounded up
pub ceil_mono : (a c b : ℕ) → a ≤ c → ceil a b ≤ ceil c b
ceil_mono a c b h = div_mono (a + (b - 1)) (c + (b - 1)) b (omega arith)

-- a number of jobs is at most the length
pub ceil_self : (a b : ℕ) → 1 ≤ b → ceil a b ≤ a
ceil_self a b h =
    let l : ceil a b < a + 1 = (div-lt_iff_lt-mul {k = b} {x = a + (b - 1)} {y = a + 1} (omega arith)).1
    (let m = mul-le-mul_left a h in let e = mul-one a in let f = add-mul a 1 b in let g = one-mul b in omega arith) in
    omega arith

-- a product of two bounded numbers
pub product : (a b m n : ℕ) → a ≤ m → b ≤ n → a * b ≤ m * n
product a b m n p q = mul-le-mul {n₂ = m} {m₂ = n} p q

-- one period less is one job less
pub ceil_step : (a b : ℕ) → 1 ≤ a → 1 ≤ b → ceil a b ≡ suc (ceil (a - b) b)
ceil_step a b p q = go (dec_le b a) (div-eq-sub-div {m = b} {n = a + (b - 1)} q (omega arith))
  where
    go : Dec (b ≤ a) → ceil a b ≡ (a + (b - 1) - b) / b + 1 → ceil a b ≡ suc (ceil (a - b) b)
    go (yes l) e =
        let d : a + (b - 1) - b ≡ a - b + (b - 1) = omega arith in
        omega (arith, e, ap (λ z. z / b) d)
    go (no l) e =
        omega (arith, e, div-eq_of_lt {n = a + (b - 1) - b} {m = b} (omega arith), div-eq_of_lt {n = a - b + (b - 1)} {m = b} (omega arith))

-- so a job that has begun counts
pub ceil_some : (a b : ℕ) → 1 ≤ a → 1 ≤ b → 1 ≤ ceil a b
ceil_some a b p q = omega (arith, ceil_step a b p q)

-- as the code has it: the quotient, and one more where something is left
pub ceil_is : (a b : ℕ) → 1 ≤ b → a / b + min 1 (a % b) ≡ ceil a b
ceil_is a b h =
    let near = div_ceil_times a b h in
    sym (div-eq_of_lt-le b (omega (arith, near)) (omega (arith, near, add-mul (a / b + min 1 (a % b)) 1 b, one-mul b)))
