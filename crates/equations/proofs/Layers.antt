-- Σ(x) of a bag by layers: for each height, as many of its lengths as reach it, x at most. So Σ(x) can be found without the bag.
use Prim.Native.Nat.{ℕ, zero, suc, ◌+◌, ◌*◌, min, ◌≤◌, ◌<◌}
use mathlib.Core.Path.{◌≡◌, refl, ap, ◌∙◌}
use mathlib.Core.Bool.{Bool, true, false, cond}
use mathlib.Core.List.{List, [], ◌∷◌, ◌++◌}
use native.Mathlib.Nat.{le_refl}
use native.Mathlib.Decide.{dec_le}
use native.Mathlib.Omega.{arith}
use lib.Dec.{leb}
use lib.ListN.{take, replicate}
use borrow.Author.Tests.{le-leb, lt-leb, leb-true, leb-false}
use Rattle.searches.specs.Indexed.{sum_to}
use Rattle.searches.proofs.Sums.{sum_to_same, sum_to_mono, sum_to_add, sum_to_alike, sum_to_most}
use Rattle.rounds.specs.Vector.{sum}
use Rattle.equations.specs.Bag.{bag_to, insert, downwards, sum_of_largest}

-- ---- how many reach y

abbrev pub hit : ℕ → ℕ → ℕ
hit y a = cond (leb y a) 1 0

abbrev pub tally : ℕ → List ℕ → ℕ
tally y [] = 0
tally y (a ∷ l) = hit y a + tally y l

-- a number counts where it reaches y
pub part_yes : (y a c : ℕ) → y ≤ a → cond (leb y a) c 0 ≡ c
part_yes y a c h = rw (le-leb y a h)

-- and not where it doesn't
pub part_no : (y a c : ℕ) → a < y → cond (leb y a) c 0 ≡ 0
part_no y a c h = rw (lt-leb y a h)

-- a part is no larger than the whole
pub part_most : (t : Bool) (c : ℕ) → cond t c 0 ≤ c
part_most true c = le_refl c
part_most false c = omega arith

-- and rises with it
pub part_mono : (t : Bool) (a c : ℕ) → a ≤ c → cond t a 0 ≤ cond t c 0
part_mono true a c h = h
part_mono false a c h = omega arith

hit_falls : (y z a : ℕ) → y ≤ z → hit z a ≤ hit y a
hit_falls y z a h = go (dec_le y a) (dec_le z a)
  where
    go : Dec (y ≤ a) → Dec (z ≤ a) → hit z a ≤ hit y a
    go (yes p) (yes q) = omega (arith, part_yes y a 1 p, part_yes z a 1 q)
    go (yes p) (no q) = omega (arith, part_yes y a 1 p, part_no z a 1 (omega arith))
    go (no p) (yes q) = absurd (omega arith)
    go (no p) (no q) = omega (arith, part_no y a 1 (omega arith), part_no z a 1 (omega arith))

tally_falls : (y z : ℕ) (l : List ℕ) → y ≤ z → tally z l ≤ tally y l
tally_falls y z [] h = omega arith
tally_falls y z (a ∷ l) h = omega (arith, hit_falls y z a h, tally_falls y z l h)

-- ---- a sum by layers

-- a number is as many as the heights up to m that it reaches, m at most
pub hit_layers : (m a : ℕ) → sum_to (λ y. hit (suc y) a) m ≡ min m a
unfolding sum_to
hit_layers zero a = omega arith
hit_layers (suc m) a = go (dec_le (suc m) a) (hit_layers m a)
  where
    go : Dec (suc m ≤ a) → sum_to (λ y. hit (suc y) a) m ≡ min m a → sum_to (λ y. hit (suc y) a) m + hit (suc m) a ≡ min (suc m) a
    go (yes p) h = omega (arith, part_yes (suc m) a 1 p)
    go (no p) h = omega (arith, part_no (suc m) a 1 (omega arith))

sum_layers : (m : ℕ) (l : List ℕ) → tally (suc m) l ≡ 0 → sum l ≡ sum_to (λ y. tally (suc y) l) m
sum_layers m [] h = omega (arith, sum_to_alike (λ y. 0) m 0 (λ y p. refl))
sum_layers m (a ∷ l) h = go (dec_le (suc m) a) (sum_layers m l (omega arith))
  where
    go : Dec (suc m ≤ a) → sum l ≡ sum_to (λ y. tally (suc y) l) m → a + sum l ≡ sum_to (λ y. hit (suc y) a + tally (suc y) l) m
    go (yes p) e = absurd (omega (arith, part_yes (suc m) a 1 p))
    go (no p) e = omega (arith, hit_layers m a, sum_to_add (λ y. hit (suc y) a) (λ y. tally (suc y) l) m)

-- ---- sorting

abbrev Sorted : List ℕ → Type 0
Sorted [] = Unit {0}
Sorted (a ∷ l) = (tally (suc a) l ≡ 0) × Sorted l

insert_tally : (y a : ℕ) (l : List ℕ) → tally y (insert a l) ≡ hit y a + tally y l
insert_tally y a [] = refl
insert_tally y a (b ∷ l) = go (leb b a) (insert_tally y a l)
  where
    go : (t : Bool) → tally y (insert a l) ≡ hit y a + tally y l
        → tally y (cond t (a ∷ b ∷ l) (b ∷ insert a l)) ≡ hit y a + (hit y b + tally y l)
    go true h = refl
    go false h = omega arith

insert_sorted : (a : ℕ) (l : List ℕ) → Sorted l → Sorted (insert a l)
insert_sorted a [] h = (refl, tt)
insert_sorted a (b ∷ l) h = go (leb b a) refl (insert_sorted a l h.1)
  where
    go : (t : Bool) → leb b a ≡ t → Sorted (insert a l) → Sorted (cond t (a ∷ b ∷ l) (b ∷ insert a l))
    go true e more =
        let p : b ≤ a = leb-true b a e in
        (omega (arith, part_no (suc a) b 1 (omega arith), tally_falls (suc b) (suc a) l (omega arith), h.0), h)
    go false e more =
        let p : a < b = leb-false b a e in
        (omega (arith, insert_tally (suc b) a l, part_no (suc b) a 1 (omega arith), h.0), more)

downwards_tally : (y : ℕ) (l : List ℕ) → tally y (downwards l) ≡ tally y l
downwards_tally y [] = refl
downwards_tally y (a ∷ l) = omega (arith, insert_tally y a (downwards l), downwards_tally y l)

sorted_downwards : (l : List ℕ) → Sorted (downwards l)
sorted_downwards [] = tt
sorted_downwards (a ∷ l) = insert_sorted a (downwards l) (sorted_downwards l)

take_tally : (x y : ℕ) (l : List ℕ) → Sorted l → tally y (take x l) ≡ min x (tally y l)
take_tally zero y l h = omega arith
take_tally (suc x) y [] h = omega arith
take_tally (suc x) y (a ∷ l) h = go (dec_le y a) (take_tally x y l h.1)
  where
    go : Dec (y ≤ a) → tally y (take x l) ≡ min x (tally y l) → hit y a + tally y (take x l) ≡ min (suc x) (hit y a + tally y l)
    go (yes p) e = omega (arith, part_yes y a 1 p)
    go (no p) e = omega (arith, part_no y a 1 (omega arith), tally_falls (suc a) y l (omega arith), h.0)

-- the sum of the x largest by layers.
pub largest_layers : (m x : ℕ) (b : List ℕ) → tally (suc m) b ≡ 0 → sum_of_largest x b ≡ sum_to (λ y. min x (tally (suc y) b)) m
unfolding sum_of_largest
largest_layers m x b h =
    sum_layers m (take x (downwards b)) (omega (arith, each (suc m)))
    ∙ sum_to_same (λ y. tally (suc y) (take x (downwards b))) (λ y. min x (tally (suc y) b)) m (λ y p. each (suc y))
  where
    each : (y : ℕ) → tally y (take x (downwards b)) ≡ min x (tally y b)
    each y = take_tally x y (downwards b) (sorted_downwards b) ∙ ap (min x) (downwards_tally y b)

-- ---- what is in the bag

-- how many of the first k numbers, each as often as repeats says, reach y.
abbrev pub reach : ℕ → (ℕ → ℕ) → (ℕ → ℕ) → ℕ → ℕ
reach k length repeats y = sum_to (λ j. cond (leb y (length j)) (repeats j) 0) k

replicate_tally : (y n a : ℕ) (l : List ℕ) → tally y (replicate n a ++ l) ≡ cond (leb y a) n 0 + tally y l
replicate_tally y zero a l = go (leb y a)
  where
    go : (t : Bool) → tally y l ≡ cond t 0 0 + tally y l
    go true = omega arith
    go false = omega arith
replicate_tally y (suc n) a l = go (leb y a) (replicate_tally y n a l)
  where
    go : (t : Bool) → tally y (replicate n a ++ l) ≡ cond t n 0 + tally y l → cond t 1 0 + tally y (replicate n a ++ l) ≡ cond t (suc n) 0 + tally y l
    go true h = omega arith
    go false h = omega arith

bag_tally : (k : ℕ) (length repeats : ℕ → ℕ) (y : ℕ) → tally y (bag_to k length repeats) ≡ reach k length repeats y
unfolding bag_to sum_to
bag_tally zero length repeats y = refl
bag_tally (suc k) length repeats y =
    omega (arith, replicate_tally y (repeats k) (length k) (bag_to k length repeats), bag_tally k length repeats y)

-- heights above all numbers are not reached.
pub reach_none : (m k : ℕ) (length repeats : ℕ → ℕ) (y : ℕ) → ((j : ℕ) → j < k → length j ≤ m) → m < y → reach k length repeats y ≡ 0
reach_none m k length repeats y h p =
    omega (arith, sum_to_alike (λ j. cond (leb y (length j)) (repeats j) 0) k 0 (λ j q. part_no y (length j) (repeats j) (omega (arith, h j q))))

-- Σ(x) of such a bag, where nothing in it is above m.
pub bag_layers_in : (m x k : ℕ) (length repeats : ℕ → ℕ) → reach k length repeats (suc m) ≡ 0
    → sum_of_largest x (bag_to k length repeats) ≡ sum_to (λ y. min x (reach k length repeats (suc y))) m
bag_layers_in m x k length repeats h =
    largest_layers m x (bag_to k length repeats) (bag_tally k length repeats (suc m) ∙ h)
    ∙ sum_to_same _ _ m (λ y p. ap (min x) (bag_tally k length repeats (suc y)))

-- it is at most x repeats m.
pub bag_most_in : (m x k : ℕ) (length repeats : ℕ → ℕ) → reach k length repeats (suc m) ≡ 0 → sum_of_largest x (bag_to k length repeats) ≤ m * x
bag_most_in m x k length repeats h =
    omega (arith, bag_layers_in m x k length repeats h, sum_to_most (λ y. min x (reach k length repeats (suc y))) m x (λ y p. omega arith))

-- the same where no number is above m, in the bag or not.
pub bag_layers : (m x k : ℕ) (length repeats : ℕ → ℕ) → ((j : ℕ) → j < k → length j ≤ m)
    → sum_of_largest x (bag_to k length repeats) ≡ sum_to (λ y. min x (reach k length repeats (suc y))) m
bag_layers m x k length repeats h = bag_layers_in m x k length repeats (reach_none m k length repeats (suc m) h (le_refl (suc m)))

pub bag_most : (m x k : ℕ) (length repeats : ℕ → ℕ) → ((j : ℕ) → j < k → length j ≤ m) → sum_of_largest x (bag_to k length repeats) ≤ m * x
bag_most m x k length repeats h = bag_most_in m x k length repeats (reach_none m k length repeats (suc m) h (le_refl (suc m)))

-- more repeats give no smaller Σ(x).
pub bag_mono : (m x k : ℕ) (length repeats more : ℕ → ℕ) → ((j : ℕ) → j < k → length j ≤ m) → ((j : ℕ) → j < k → repeats j ≤ more j)
    → sum_of_largest x (bag_to k length repeats) ≤ sum_of_largest x (bag_to k length more)
bag_mono m x k length repeats more h le =
    omega (
      arith,
      bag_layers m x k length repeats h,
      bag_layers m x k length more h,
      sum_to_mono (λ y. min x (reach k length repeats (suc y))) (λ y. min x (reach k length more (suc y))) m
          (λ y p. omega (arith, sum_to_mono _ _ k (λ j q. part_mono (leb (suc y) (length j)) (repeats j) (more j) (le j q)))),
    )
