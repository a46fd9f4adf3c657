-- The numbers of statuses, and the counts for a resource.
use Rattle.std.proofs.Common.{◌≡◌, ℕ, zero, suc, ◌+◌, ◌-◌, ◌*◌, ◌<◌, ◌≤◌, Bool, true, false, not, ◌&&◌, eqb, ltb, leb, List, get_or, refl, arith, ltb-true, le-ltb, lt-ltb, ne_eqb}
use Rattle.std.proofs.lemmas.Bool.{lt-leb}
use Rattle.searches.specs.Searches.{only}
use Rattle.protocol.specs.State.{Status, none, ready, waiting, asleep, is_none, is_ready, is_waiting, is_asleep}
use Rattle.arrays.specs.View.{status_of, own_number, count_of}

-- ---- statuses

-- 1 is ready
pub ready_number : (x : ℕ) → eqb x 1 ≡ is_ready (status_of x)
ready_number zero = refl
ready_number (suc zero) = refl
ready_number (suc (suc zero)) = refl
ready_number (suc (suc (suc zero))) = refl
ready_number (suc (suc (suc (suc n)))) = ne_eqb (suc (suc (suc (suc n)))) 1 (λ e. omega arith)

-- 2 is waiting
pub waiting_number : (x : ℕ) → eqb x 2 ≡ is_waiting (status_of x)
waiting_number zero = refl
waiting_number (suc zero) = refl
waiting_number (suc (suc zero)) = refl
waiting_number (suc (suc (suc zero))) = refl
waiting_number (suc (suc (suc (suc n)))) = ne_eqb (suc (suc (suc (suc n)))) 2 (λ e. omega arith)

-- 3 is asleep
pub asleep_number : (x : ℕ) → eqb x 3 ≡ is_asleep (status_of x)
asleep_number zero = refl
asleep_number (suc zero) = refl
asleep_number (suc (suc zero)) = refl
asleep_number (suc (suc (suc zero))) = refl
asleep_number (suc (suc (suc (suc n)))) = ne_eqb (suc (suc (suc (suc n)))) 3 (λ e. omega arith)

-- these three are a job
pub unfinished_number : (x : ℕ) → ltb 0 x && leb x 3 ≡ not (is_none (status_of x))
unfinished_number zero = refl
unfinished_number (suc zero) = refl
unfinished_number (suc (suc zero)) = refl
unfinished_number (suc (suc (suc zero))) = refl
unfinished_number (suc (suc (suc (suc n)))) = rw (lt-leb (suc (suc (suc (suc n)))) 3 (omega arith), lt-ltb 0 (suc (suc (suc (suc n)))) (omega arith))

-- a status's own number says it
pub own_status : (x : Status) → status_of (own_number x) ≡ x
own_status none = refl
own_status ready = refl
own_status waiting = refl
own_status asleep = refl

-- ---- counts

-- a resource above 16 has none
pub count_past : (l : List ℕ) (i r : ℕ) → 0 < r → 16 ≤ r - 1 → count_of l i r ≡ 0
count_past l i zero h k = refl
count_past l i (suc r) h k = rw (le-ltb r 16 (omega arith))

-- the sixteen have theirs
pub count_in_lem : (l : List ℕ) (i r : ℕ) → 0 < r → r - 1 < 16 → count_of l i r ≡ get_or l (i * 16 + (r - 1)) 0
count_in_lem l i zero h k = absurd (omega arith)
count_in_lem l i (suc r) h k = let e : suc r - 1 ≡ r = omega arith in rw (lt-ltb r 16 (omega arith), e)

-- a count above 0 is of a resource of 1 to 16
pub count_range : (l : List ℕ) (i r : ℕ) → 0 < count_of l i r → (0 < r) × (r ≤ 16)
count_range l i zero h = (absurd (omega arith), omega arith)
count_range l i (suc r) h = go (ltb r 16) refl h
  where
    go : (b : Bool) → ltb r 16 ≡ b → 0 < only b (get_or l (i * 16 + r) 0) → (0 < suc r) × (suc r ≤ 16)
    go true e h = (omega arith, omega (arith, ltb-true r 16 e))
    go false e h = absurd (omega arith)
