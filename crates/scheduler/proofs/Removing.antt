-- A section removed from the arrays is removed from the machine's list.
use mathlib.Core.Path.{◌≡◌, refl, sym, ap, subst, ◌∙◌}
use mathlib.Core.Bool.{Bool, true, false, ◌||◌, or-false, or_assoc}
use mathlib.Core.List.{List, [], ◌∷◌, ◌++◌}
use Prim.Native.Nat.{ℕ, zero, suc, ◌-◌, ◌≤◌, ◌<◌}
use native.Mathlib.Omega.{arith}
use native.Mathlib.Decide.{ℕ_discrete}
use lib.ListN.{get_or}
use Rattle.searches.specs.Searches.{Place, nowhere, at, or_else, if_here, first}
use Rattle.protocol.specs.State.{Section}
use Rattle.protocol.specs.Acting.{section, same, has, skip, without}
use Rattle.searches.proofs.Testing.{impossible}
use Rattle.searches.proofs.Searching.{first_found}
use Rattle.arrays.specs.View.{sections_by, is_section}
use Rattle.arrays.specs.Stores.{Removed}

-- ---- a list with one section more

-- whether it has the section s
has_snoc : (s t : Section) (l : List Section) → has s (l ++ (t ∷ [])) ≡ has s l || same s t
unfolding has
has_snoc s t [] = or-false (same s t)
has_snoc s t (u ∷ l) = rw (has_snoc s t l) (sym (or_assoc (same s u) (has s l) (same s t)))

-- without the section s, where an earlier one is it
without_in : (s t : Section) (l : List Section) → has s l ≡ true → without s (l ++ (t ∷ [])) ≡ without s l ++ (t ∷ [])
unfolding has without
without_in s t [] e = absurd (impossible cc)
without_in s t (u ∷ l) e = go (same s u) e (without_in s t l)
  where
    go : (b : Bool) → b || has s l ≡ true → (has s l ≡ true → without s (l ++ (t ∷ [])) ≡ without s l ++ (t ∷ []))
        → skip b (l ++ (t ∷ [])) (u ∷ without s (l ++ (t ∷ []))) ≡ skip b l (u ∷ without s l) ++ (t ∷ [])
    go true e more = refl
    go false e more = ap (λ x. u ∷ x) (more e)

-- and where only the last is
without_last : (s t : Section) (l : List Section) → has s l ≡ false → same s t ≡ true → without s (l ++ (t ∷ [])) ≡ l
unfolding has without
without_last s t [] e f = rw f
without_last s t (u ∷ l) e f = go (same s u) e (without_last s t l)
  where
    go : (b : Bool) → b || has s l ≡ false → (has s l ≡ false → same s t ≡ true → without s (l ++ (t ∷ [])) ≡ l)
        → skip b (l ++ (t ∷ [])) (u ∷ without s (l ++ (t ∷ []))) ≡ u ∷ l
    go true e more = absurd (impossible cc)
    go false e more = ap (λ x. u ∷ x) (more e f)

-- ---- the section's slot

-- none before the first
first_before : (test : ℕ → Bool) (n k : ℕ) → first test n ≡ at k → first test k ≡ nowhere
unfolding first
first_before test zero k e = absurd (impossible cc)
first_before test (suc m) k e = go (first test m) (test m) refl (first_before test m k) e
  where
    go : (p : Place) (b : Bool) → first test m ≡ p → (first test m ≡ at k → first test k ≡ nowhere) → or_else p (if_here b m) ≡ at k
        → first test k ≡ nowhere
    go (at j) b q more e = more (q ∙ e)
    go nowhere true q more e = let w : m ≡ k = cc in rw (← w) q
    go nowhere false q more e = absurd (impossible cc)

module _ (p r : List ℕ) (i x : ℕ) where
  -- whether the section in a slot is that of the place i and the resource x
  abbrev test : ℕ → Bool
  test = is_section p r i x

  -- none of the slots has it: it isn't open
  pub not_open : (n : ℕ) → first test n ≡ nowhere → has (section i x) (sections_by p r n) ≡ false
  unfolding first has sections_by
  not_open zero e = refl
  not_open (suc m) e = go (first test m) (test m) refl e (not_open m)
    where
      go : (q : Place) (b : Bool) → test m ≡ b → or_else q (if_here b m) ≡ nowhere → (q ≡ nowhere → has (section i x) (sections_by p r m) ≡ false)
          → has (section i x) (sections_by p r m ++ (section (get_or p m 0) (get_or r m 0) ∷ [])) ≡ false
      go nowhere false t e more = has_snoc (section i x) (section (get_or p m 0) (get_or r m 0)) (sections_by p r m) ∙ rw (more refl, t)
      go nowhere true t e more = absurd (impossible cc)
      go (at j) b t e more = absurd (impossible cc)

  -- one has it: it is open
  is_open : (k n : ℕ) → test k ≡ true → k < n → has (section i x) (sections_by p r n) ≡ true
  unfolding sections_by
  is_open k zero t h = absurd (omega arith)
  is_open k (suc m) t h =
      has_snoc (section i x) (section (get_or p m 0) (get_or r m 0)) (sections_by p r m) ∙ go (ℕ_discrete k m) (is_open k m t)
    where
      right : (a b : Bool) → b ≡ true → a || b ≡ true
      right true b e = refl
      right false b e = e

      go : Dec (k ≡ m) → (k < m → has (section i x) (sections_by p r m) ≡ true) → has (section i x) (sections_by p r m) || test m ≡ true
      go (yes q) more = right (has (section i x) (sections_by p r m)) (test m) (subst (λ y. test y ≡ true) q t)
      go (no ne) more = rw (more (omega arith))

  module _ (n k : ℕ) (a b : List ℕ) (A : Removed p k n a) (B : Removed r k n b) where
    -- the slots before it stay
    pub same_low : (m : ℕ) → m ≤ k → sections_by p r m ≡ sections_by a b m
    unfolding sections_by
    same_low zero h = refl
    same_low (suc m) h = rw (same_low m (omega arith), A.before m (omega arith), B.before m (omega arith))

    module _ (f : first test n ≡ at k) where
      -- its slot
      slot : (k < n) × (test k ≡ true)
      slot = first_found test n k f

      -- the section is open
      pub is_there : has (section i x) (sections_by p r n) ≡ true
      is_there = is_open k n slot.1 slot.0

      -- removed where it is the last
      at_slot : without (section i x) (sections_by p r (suc k)) ≡ sections_by a b k
      unfolding sections_by
      at_slot =
          without_last (section i x) (section (get_or p k 0) (get_or r k 0)) (sections_by p r k) (not_open k (first_before test n k f)) slot.1
          ∙ same_low k (omega arith)

      -- and where some stand after it
      removed : (m : ℕ) → k ≤ m → m < n → without (section i x) (sections_by p r (suc m)) ≡ sections_by a b m
      unfolding sections_by
      removed zero h g =
          let w : k ≡ 0 = omega arith in
          subst (λ y. without (section i x) (sections_by p r (suc y)) ≡ sections_by a b y) w at_slot
      removed (suc j) h g = go (ℕ_discrete k (suc j)) (removed j)
        where
          go : Dec (k ≡ suc j) → (k ≤ j → j < n → without (section i x) (sections_by p r (suc j)) ≡ sections_by a b j)
              → without (section i x) (sections_by p r (suc (suc j))) ≡ sections_by a b (suc j)
          go (yes e) more = subst (λ y. without (section i x) (sections_by p r (suc y)) ≡ sections_by a b y) e at_slot
          go (no ne) more =
              without_in (section i x) (section (get_or p (suc j) 0) (get_or r (suc j) 0)) (sections_by p r (suc j))
              (is_open k (suc j) slot.1 (omega arith))
              ∙ rw (more (omega arith) (omega arith), A.after j (omega arith) g, B.after j (omega arith) g)

      -- so the list is without it
      pub section_removed : without (section i x) (sections_by p r n) ≡ sections_by a b (n - 1)
      section_removed =
          let w : suc (n - 1) ≡ n = omega (arith, slot.0) in
          subst (λ y. without (section i x) (sections_by p r y) ≡ sections_by a b (n - 1)) w
          (removed (n - 1) (omega (arith, slot.0)) (omega (arith, slot.0)))
