-- A walk over the front of a list.
use Rattle.std.proofs.Common.{◌≡◌, ℕ, ◌<◌, ◌≤◌, ◌∙◌, List, length, get_or, take, arith, length-take-le}
use Rattle.std.proofs.lemmas.List.{get_or-take, get_or_default}

-- an item of the first n is one of the list
pub item_is : (l : List ℕ) (n i x : ℕ) → n ≤ length l → x ≡ get_or (take n l) i x → i < length (take n l) → (i < n) × (x ≡ get_or l i 0)
item_is l n i x few e h =
    let m : i < n = omega (arith, length-take-le n l few) in
    (m, e ∙ get_or-take n l i x m ∙ get_or_default l i x 0 (omega arith))
