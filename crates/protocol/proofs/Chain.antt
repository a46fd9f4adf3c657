-- Lists of open sections in which each holder is above the ceiling before it.
use mathlib.Core.Path.{◌≡◌, refl, sym, ap, ◌∙◌}
use mathlib.Core.List.{List, [], ◌∷◌, ◌++◌}
use mathlib.Core.Logic.{◌⊎◌, inl, inr, ⊎_elim}
use mathlib.Core.Bool.{Bool, true, false, ◌||◌}
use Prim.Native.Nat.{ℕ, ◌≤◌, ◌<◌}
use native.Mathlib.Nat.{le_refl}
use native.Mathlib.Omega.{arith}
use lib.Dec.{eqb}
use borrow.Author.Tests.{eqb-true, eq-eqb}
use Rattle.searches.proofs.Testing.{impossible, and_true, true_and}
use Rattle.protocol.specs.Tasks.{Table, priority}
use Rattle.protocol.specs.State.{Section}
use Rattle.protocol.specs.Running.{ceiling, top}
use Rattle.protocol.specs.Acting.{same, has, skip, without}

-- The section s is in the list.
abbrev pub In : Section → List Section → Type 0
In s [] = ⊥
In s (t ∷ l) = (s ≡ t) ⊎ In s l

-- the holder's priority
abbrev pub low : Table → Section → ℕ
low T s = priority T s.place

-- the section's ceiling
abbrev pub high : Table → Section → ℕ
high T s = ceiling T s.resource

-- Each holder is above the ceiling before it, x at first, and not above its own section's ceiling.
abbrev pub Chain : Table → ℕ → List Section → Type 0
Chain T x [] = Unit {0}
Chain T x (s ∷ l) = (x < low T s) × (low T s ≤ high T s) × Chain T (high T s) l

-- ---- one more at the end

-- what is in a list is in any longer one
pub in_left : (s : Section) (l m : List Section) → In s l → In s (l ++ m)
in_left s [] m h = absurd h
in_left s (t ∷ l) m (inl e) = inl e
in_left s (t ∷ l) m (inr h) = inr (in_left s l m h)

-- the last is in the list
pub in_last : (s : Section) (l : List Section) → In s (l ++ (s ∷ []))
in_last s [] = inl refl
in_last s (t ∷ l) = inr (in_last s l)

-- what is in a list with one more was in it, or is the one more
pub in_snoc : (s t : Section) (l : List Section) → In s (l ++ (t ∷ [])) → In s l ⊎ (s ≡ t)
in_snoc s t [] (inl e) = inr e
in_snoc s t [] (inr h) = absurd h
in_snoc s t (u ∷ l) (inl e) = inl (inl e)
in_snoc s t (u ∷ l) (inr h) = ⊎_elim (λ k. inl (inr k)) (λ e. inr e) (in_snoc s t l h)

module _ (T : Table) where
  -- the top is the last section's ceiling
  pub top_snoc : (x : ℕ) (l : List Section) (s : Section) → top T x (l ++ (s ∷ [])) ≡ high T s
  unfolding top
  top_snoc x [] s = refl
  top_snoc x (t ∷ l) s = top_snoc (high T t) l s

  -- a chain goes on with a holder above its top
  pub chain_snoc : (x : ℕ) (l : List Section) (s : Section)
      → Chain T x l → top T x l < low T s → low T s ≤ high T s → Chain T x (l ++ (s ∷ []))
  unfolding top
  chain_snoc x [] s h p q = (p, q, tt)
  chain_snoc x (t ∷ l) s h p q = (h.0, h.1, chain_snoc (high T t) l s h.2 p q)

  -- and stays one without its last section
  pub chain_init : (x : ℕ) (l : List Section) (s : Section) → Chain T x (l ++ (s ∷ [])) → Chain T x l
  chain_init x [] s h = tt
  chain_init x (t ∷ l) s h = (h.0, h.1, chain_init (high T t) l s h.2)

  -- ---- order along a chain

  -- the top is not below the start
  chain_start : (x : ℕ) (l : List Section) → Chain T x l → x ≤ top T x l
  unfolding top
  chain_start x [] h = le_refl x
  chain_start x (t ∷ l) h = omega (arith, h.0, h.1, chain_start (high T t) l h.2)

  -- nor below any ceiling
  pub chain_top : (x : ℕ) (l : List Section) (s : Section) → Chain T x l → In s l → high T s ≤ top T x l
  unfolding top
  chain_top x [] s h i = absurd i
  chain_top x (t ∷ l) s h (inl e) = rw e (chain_start (high T t) l h.2)
  chain_top x (t ∷ l) s h (inr i) = chain_top (high T t) l s h.2 i

  -- every holder is above the start
  chain_above : (x : ℕ) (l : List Section) (s : Section) → Chain T x l → In s l → x < low T s
  chain_above x [] s h i = absurd i
  chain_above x (t ∷ l) s h (inl e) = rw e h.0
  chain_above x (t ∷ l) s h (inr i) = omega (arith, h.0, h.1, chain_above (high T t) l s h.2 i)

  -- and none is above its own section's ceiling
  pub chain_within : (x : ℕ) (l : List Section) (s : Section) → Chain T x l → In s l → low T s ≤ high T s
  chain_within x [] s h i = absurd i
  chain_within x (t ∷ l) s h (inl e) = rw e h.1
  chain_within x (t ∷ l) s h (inr i) = chain_within (high T t) l s h.2 i

  -- the last holder is above the ceilings before it
  pub chain_before : (x : ℕ) (l : List Section) (s t : Section) → Chain T x (l ++ (s ∷ [])) → In t l → high T t < low T s
  chain_before x [] s t h i = absurd i
  chain_before x (u ∷ l) s t h (inl e) = rw e (chain_above (high T u) (l ++ (s ∷ [])) s h.2 (in_last s l))
  chain_before x (u ∷ l) s t h (inr i) = chain_before (high T u) l s t h.2 i

  -- the top is the start, of an empty list, or the ceiling of one of the sections
  pub chain_last : (x : ℕ) (l : List Section) → (top T x l ≡ x) ⊎ ((s : Section) × In s l × (high T s ≡ top T x l))
  unfolding top
  chain_last x [] = inl refl
  chain_last x (t ∷ l) =
      ⊎_elim (λ e. inr (t, inl refl, sym e)) (λ w. inr (w.0, inr w.1, w.2)) (chain_last (high T t) l)

  -- two sections of a chain are one, or one lies wholly above the other
  pub chain_order : (x : ℕ) (l : List Section) (s t : Section) → Chain T x l → In s l → In t l
      → (s ≡ t) ⊎ ((high T s < low T t) ⊎ (high T t < low T s))
  chain_order x [] s t h i j = absurd i
  chain_order x (u ∷ l) s t h (inl e) (inl f) = inl (e ∙ sym f)
  chain_order x (u ∷ l) s t h (inl e) (inr j) = inr (inl (rw e (chain_above (high T u) l t h.2 j)))
  chain_order x (u ∷ l) s t h (inr i) (inl f) = inr (inr (rw f (chain_above (high T u) l s h.2 i)))
  chain_order x (u ∷ l) s t h (inr i) (inr j) = chain_order (high T u) l s t h.2 i j

-- ---- a section closed

-- the test of equality passes on equal sections alone
same_true : (s t : Section) → same s t ≡ true → s ≡ t
same_true s t e =
    let b = and_true (eqb s.place t.place) (eqb s.resource t.resource) e in
    let p : s.place ≡ t.place = eqb-true s.place t.place b.0 in
    let q : s.resource ≡ t.resource = eqb-true s.resource t.resource b.1 in
    λ i. record { place = p i; resource = q i }

-- and on all of them
same_refl : (s t : Section) → s ≡ t → same s t ≡ true
same_refl s t e = rw (← e) (true_and (eq-eqb s.place s.place refl) (eq-eqb s.resource s.resource refl))

-- the search finds a section that is in the list
pub in_has : (s : Section) (l : List Section) → In s l → has s l ≡ true
unfolding has
in_has s [] h = absurd h
in_has s (t ∷ l) (inl e) = rw (same_refl s t e)
in_has s (t ∷ l) (inr h) = go (same s t) (in_has s l h)
  where
    go : (b : Bool) → has s l ≡ true → b || has s l ≡ true
    go true e = refl
    go false e = e

-- closing a section whose holder is above every other holder takes the last of the list away
pub without_last : (T : Table) (x : ℕ) (l : List Section) (s : Section) → Chain T x l → In s l
    → ((t : Section) → In t l → low T t ≤ low T s) → l ≡ without s l ++ (s ∷ [])
unfolding without
without_last T x [] s h i most = absurd i
without_last T x (t ∷ l) s h i most = go (same s t) refl (without_last T (high T t) l s h.2)
  where
    empty : (m : List Section) → s ≡ t → Chain T (high T t) m → ((u : Section) → In u m → low T u ≤ low T s) → m ≡ []
    empty [] e c a = refl
    empty (u ∷ m) e c a = absurd (omega (arith, a u (inl refl), c.0, h.1, ap (low T) e))

    later : In s (t ∷ l) → same s t ≡ false → In s l
    later (inl e) d = absurd (let b = same_refl s t e in impossible cc)
    later (inr j) d = j

    go : (b : Bool) → same s t ≡ b → (In s l → ((u : Section) → In u l → low T u ≤ low T s) → l ≡ without s l ++ (s ∷ []))
        → t ∷ l ≡ skip b l (t ∷ without s l) ++ (s ∷ [])
    go true e more =
        rw (empty l (same_true s t e) h.2 (λ u j. most u (inr j))) (ap (λ u. u ∷ []) (sym (same_true s t e)))
    go false e more = ap (λ m. t ∷ m) (more (later i e) (λ u j. most u (inr j)))
