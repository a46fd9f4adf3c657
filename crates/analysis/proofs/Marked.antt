-- Whether the first of a list's marks are all set.
use Rattle.std.proofs.Common.{◌≡◌, ℕ, zero, suc, ◌+◌, ◌≤◌, ◌∙◌, refl, ap, Bool, false, ◌&&◌, List, length, take, get_or, arith, add-one}
use Rattle.std.specs.List.{list_all}
use Rattle.std.proofs.lemmas.List.Folds.{list_all_more}
use Rattle.searches.specs.Searches.{all}

-- by elements, and by places
pub all_marked : (l : List Bool) (n : ℕ) → n ≤ length l → list_all (λ b. b) (take n l) ≡ all (λ i. get_or l i false) n
unfolding all
all_marked l zero h = refl
all_marked l (suc n) h =
    let more : list_all (λ b. b) (take (n + 1) l) ≡ list_all (λ b. b) (take n l) && get_or l n false = list_all_more (λ b. b) l n false (omega arith) in
    rw add-one at (more ∙ ap (λ (b : Bool). b && get_or l n false) (all_marked l n (omega arith)))
