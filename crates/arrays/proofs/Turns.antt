-- What the scans look at, and how the running job is found from it.
use Rattle.std.proofs.Common.{◌≡◌, ◌≢◌, ℕ, ◌<◌, ◌≤◌, List, length, get_or, take, length-take-le, get_or-take, arith, Option, None, Some, MatchOption, sym, eq-eqb, eqb-true, Bool, not, ◌&&◌, eqb, ltb, ap, ◌∙◌}
use Rattle.searches.specs.Searches.{first, best, largest, only}
use Rattle.searches.proofs.Searching.{first_here, first_none}
use Rattle.searches.proofs.Leading.{best_by_largest}
use Rattle.protocol.specs.Tasks.{Table, priority, setting}
use Rattle.protocol.specs.State.{Entry, is_none}
use Rattle.protocol.specs.Running.{system_priority, in_force, running}
use Rattle.arrays.specs.Places.{place_of}
use Rattle.arrays.specs.View.{eligible_under, eligible_priority}

-- ---- what the scans look at

-- a user's priority, 0 for a task with no use of the resource r
abbrev pub user_priority : Table → ℕ → ℕ → ℕ
user_priority T r i = only (ltb 0 ((T.task i).uses r)) (priority T i)

-- whether the task has a use of the resource r
abbrev pub uses_it : Table → ℕ → ℕ → Bool
uses_it T r i = ltb 0 ((T.task i).uses r)

-- the setting of a started, unfinished job, else 0
abbrev pub started_setting : Table → (ℕ → Entry) → ℕ → ℕ
started_setting T f i = only ((f i).started && not (is_none (f i).status)) (setting T i)

-- whether the job may run under the system priority y, and has the highest priority h
abbrev pub leads : Table → (ℕ → Entry) → ℕ → ℕ → ℕ → Bool
leads T f y h i = eligible_under T f y i && eqb (priority T i) h

-- the number in a list
abbrev pub number_in : List ℕ → ℕ → ℕ
number_in l i = get_or l i 0

-- ---- who runs

-- the running job is the first of the eligible ones that has the highest priority of them
pub running_found : (T : Table) (f : ℕ → Entry) (system highest : ℕ) → system ≡ system_priority T f
    → highest ≡ largest (eligible_priority T f system) T.size → first (leads T f system highest) T.size ≡ running in_force T f
unfolding running
running_found T f system highest e h =
    rw h (best_by_largest (eligible_under T f system) (priority T) T.size) ∙ ap (λ y. best (eligible_under T f y) (priority T) T.size) e

-- ---- who has a priority

-- The place o is the first one of the number x in a list, if it has one.
abbrev pub FirstOf : List ℕ → ℕ → Option ℕ → Type 0
FirstOf l x o =
    MatchOption o ((k : ℕ) → k < length l → number_in l k ≢ x)
    (λ i. (i < length l) × (number_in l i ≡ x) × ((k : ℕ) → k < i → number_in l k ≢ x))

-- among the first n it is the first that passes the test
pub found_first : (l : List ℕ) (x n : ℕ) (o : Option ℕ) → n ≤ length l → FirstOf (take n l) x o → place_of o ≡ first (λ k. eqb (number_in l k) x) n
found_first l x n o le h = go o h
  where
    long : length (take n l) ≡ n
    long = length-take-le n l le

    kept : (k : ℕ) → k < n → number_in (take n l) k ≡ number_in l k
    kept k lt = get_or-take n l k 0 lt

    go : (o : Option ℕ) → FirstOf (take n l) x o → place_of o ≡ first (λ k. eqb (number_in l k) x) n
    go None h = sym (first_none _ n (λ k lt e. h k (omega (arith, long)) (kept k lt ∙ eqb-true _ _ e)))
    go (Some i) h =
        let lt : i < n = omega (arith, long, h.0) in
        sym (first_here _ i n (first_none _ i (λ k less e. h.2 k less (kept k (omega arith) ∙ eqb-true _ _ e)))
        (eq-eqb _ _ (sym (kept i lt) ∙ h.1)) lt)
