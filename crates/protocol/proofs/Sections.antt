-- The open sections of a state are those that calls opened, and a resource is in one of them at most.
use mathlib.Core.Path.{◌≡◌, refl, sym, ap, subst, ◌∙◌}
use mathlib.Core.List.{[], ◌∷◌, ◌++◌}
use mathlib.Core.Logic.{⊎_elim}
use Prim.Native.Nat.{ℕ, zero, suc, ◌≤◌, ◌<◌}
use native.Mathlib.Omega.{arith}
use native.Mathlib.Decide.{dec_le, ℕ_discrete}
use Rattle.searches.proofs.Testing.{impossible}
use Rattle.protocol.specs.Tasks.{Table}
use Rattle.protocol.specs.State.{Section, State}
use Rattle.protocol.specs.Running.{Rule}
use Rattle.protocol.specs.Acting.{section}
use Rattle.protocol.specs.Trace.{Event, nothing, released, resumed, opened, closed, slept, ended, Open}
use Rattle.protocol.proofs.Chain.{In, low, Chain, in_left, in_last, in_snoc, chain_init, chain_within, chain_before}
use Rattle.protocol.proofs.Effects.{Opening, Effect}
use Rattle.protocol.proofs.Runs.{Changed, Link, by_call, by_change, Run, inv, next}

-- a section that no call closes stays open
still_open : {ev : ℕ → Event} {o p r k : ℕ} → Open ev o p r k → (ev k ≡ closed p r → ⊥) → Open ev o p r (suc k)
still_open {ev} {o} {p} {r} {k} w ne = record {
  began = w.began;
  made = omega arith;
  kept = λ j lo hi e. go j lo hi e (ℕ_discrete j k);
}
  where
    go : (j : ℕ) → o < j → j < suc k → ev j ≡ closed p r → Dec (j ≡ k) → ⊥
    go j lo hi e (yes q) = ne (sym (ap ev q) ∙ e)
    go j lo hi e (no d) = w.kept j lo (omega arith) e

-- one that is open was open since its call
pub was_open : {ev : ℕ → Event} {o p r j k : ℕ} → Open ev o p r k → o < j → j ≤ k → Open ev o p r j
was_open w lt le = record { began = w.began; made = lt; kept = λ x lo hi e. w.kept x lo (omega arith) e }

-- Some call opened the section t, which is open after k calls.
abbrev Opener : (ℕ → Event) → Table → Section → ℕ → Type 0
Opener ev U t k = (o : ℕ) × Open ev o (low U t) t.resource k

-- The section of p and r is in the state.
abbrev pub Opened : Table → State → ℕ → ℕ → Type 0
Opened U s p r = (t : Section) × In t s.sections × (low U t ≡ p) × (t.resource ≡ r)

module _ {E : Rule} {T : ℕ → Table} {S : ℕ → State} {ev : ℕ → Event} (G : Run E T S ev) where
  -- ---- the sections of the state are the open ones

  -- a section in the state was opened by a call and is open
  pub opened_by : (k : ℕ) (t : Section) → In t (S k).sections → Opener ev (T k) t k
  opened_by zero t i = absurd (subst (In t) G.shut i)
  opened_by (suc k) t i = by (next G k) (opened_by k t)
    where
      stay : (S (suc k)).sections ≡ (S k).sections → (ev k ≡ closed (low (T k) t) t.resource → ⊥)
          → (In t (S k).sections → Opener ev (T k) t k) → Opener ev (T k) t (suc k)
      stay q ne more = let w = more (subst (In t) q i) in (w.0, still_open w.1 ne)

      go : (e : Event) → ev k ≡ e → Effect E (T k) (S k) (S (suc k)) e → (In t (S k).sections → Opener ev (T k) t k) → Opener ev (T k) t (suc k)
      go nothing e h more = stay h (λ z. impossible (cc (e, z))) more
      go (released p) e h more = stay h (λ z. impossible (cc (e, z))) more
      go (resumed p) e h more = stay h (λ z. impossible (cc (e, z))) more
      go (slept p) e h more = stay h (λ z. impossible (cc (e, z))) more
      go (ended p) e h more = stay h (λ z. impossible (cc (e, z))) more
      go (opened p r) e h more =
          ⊎_elim
          (λ o. let w = more o in (w.0, still_open w.1 (λ z. impossible (cc (e, z)))))
          (λ q. (
            k,
            subst (λ x. Open ev k (low (T k) x) x.resource (suc k)) (sym q) (record {
              began = e ∙ ap (λ x. opened x r) (sym h.names);
              made = omega arith;
              kept = λ j lo hi z. omega arith;
            }),
          ))
          (in_snoc t (section h.by r) (S k).sections (subst (In t) h.adds i))
      go (closed p r) e h more =
          let m = (S (suc k)).sections in
          let D : Chain (T k) 0 (m ++ (section h.by r ∷ [])) = subst (Chain (T k) 0) h.takes (inv G k).sound.chain in
          let w = more (subst (In t) (sym h.takes) (in_left t m (section h.by r ∷ []) i)) in (
            w.0,
            still_open w.1 (λ z.
                let same : p ≡ low (T k) t = cc (e, z) in
                omega (
                  arith,
                  h.names,
                  chain_before (T k) 0 m (section h.by r) t D i,
                  chain_within (T k) 0 m t (chain_init (T k) 0 m (section h.by r) D) i,
                )),
          )

      by : Link E (T k) (T (suc k)) (S k) (S (suc k)) (ev k) → (In t (S k).sections → Opener ev (T k) t k) → Opener ev (T (suc k)) t (suc k)
      by (by_call q c) more = subst (λ U. Opener ev U t (suc k)) (sym q) (go (ev k) refl c.effect more)
      by (by_change c z) more = absurd (subst (In t) c.shut_after i)

  -- and an open section is in the state
  pub opened_in : {o p r : ℕ} (k : ℕ) → Open ev o p r k → Opened (T k) (S k) p r
  opened_in zero w = absurd (omega (arith, w.made))
  opened_in {o} {p} {r} (suc k) w = by (next G k) (opened_in k)
    where
      new : Effect E (T k) (S k) (S (suc k)) (ev k) → ev k ≡ opened p r → Opened (T k) (S (suc k)) p r
      new h q =
          let g : Opening E (T k) (S k) (S (suc k)) p r = subst (Effect E (T k) (S k) (S (suc k))) q h in
          (section g.by r, subst (In (section g.by r)) (sym g.adds) (in_last (section g.by r) (S k).sections), g.names, refl)

      old : (t : Section) → In t (S k).sections → low (T k) t ≡ p → t.resource ≡ r
          → (e : Event) → ev k ≡ e → Effect E (T k) (S k) (S (suc k)) e → o < k → In t (S (suc k)).sections
      old t i a b nothing d h lt = subst (In t) (sym h) i
      old t i a b (released x) d h lt = subst (In t) (sym h) i
      old t i a b (resumed x) d h lt = subst (In t) (sym h) i
      old t i a b (slept x) d h lt = subst (In t) (sym h) i
      old t i a b (ended x) d h lt = subst (In t) (sym h) i
      old t i a b (opened x y) d h lt = subst (In t) (sym h.adds) (in_left t (S k).sections (section h.by y ∷ []) i)
      old t i a b (closed x y) d h lt =
          ⊎_elim (λ j. j)
          (λ q. absurd (w.kept k lt (omega arith)
          (let u : x ≡ p = sym h.names ∙ sym (ap (low (T k)) q) ∙ a in
          let z : y ≡ r = sym (ap (λ v. v.resource) q) ∙ b in
          d ∙ cc)))
          (in_snoc t (section h.by y) (S (suc k)).sections (subst (In t) h.takes i))

      go : Effect E (T k) (S k) (S (suc k)) (ev k) → Dec (o ≡ k) → (Open ev o p r k → Opened (T k) (S k) p r) → Opened (T k) (S (suc k)) p r
      go h (yes q) more = new h (sym (ap ev q) ∙ w.began)
      go h (no ne) more =
          let lt : o < k = omega (arith, w.made) in
          let v = more (was_open w lt (omega arith)) in
          (v.0, old v.0 v.1 v.2 v.3 (ev k) refl h lt, v.2, v.3)

      gone : Changed E (T k) (S k) (T (suc k)) (S (suc k)) → ev k ≡ nothing → Dec (o ≡ k) → (Open ev o p r k → Opened (T k) (S k) p r) → ⊥
      gone c z (yes q) more = impossible (cc (ap ev q, z, w.began))
      gone c z (no ne) more =
          let v = more (was_open w (omega (arith, w.made)) (omega arith)) in
          subst (In v.0) c.shut v.1

      by : Link E (T k) (T (suc k)) (S k) (S (suc k)) (ev k) → (Open ev o p r k → Opened (T k) (S k) p r) → Opened (T (suc k)) (S (suc k)) p r
      by (by_call q c) more = subst (λ U. Opened U (S (suc k)) p r) (sym q) (go c.effect (ℕ_discrete o k) more)
      by (by_change c z) more = absurd (gone c z (ℕ_discrete o k) more)

  -- while a section is open the table stays
  pub same_table : {o p r : ℕ} (j k : ℕ) → Open ev o p r k → o < j → j ≤ k → T j ≡ T k
  same_table j zero w lt le = absurd (omega arith)
  same_table {o} {p} {r} j (suc k) w lt le = go (dec_le j k) (next G k) (same_table j k)
    where
      go : Dec (j ≤ k) → Link E (T k) (T (suc k)) (S k) (S (suc k)) (ev k) → (Open ev o p r k → o < j → j ≤ k → T j ≡ T k) → T j ≡ T (suc k)
      go (no gt) l more = ap T (omega arith)
      go (yes d) (by_call q c) more = more (was_open w (omega arith) (omega arith)) lt d ∙ sym q
      go (yes d) (by_change c z) more =
          let v = opened_in k (was_open {j = k} w (omega arith) (omega arith)) in
          absurd (subst (In v.0) c.shut v.1)

  -- what a lock finds: the running job, which holds nothing
  pub opening : (k p r : ℕ) → ev k ≡ opened p r → Opening E (T k) (S k) (S (suc k)) p r
  opening k p r e = by (next G k)
    where
      by : Link E (T k) (T (suc k)) (S k) (S (suc k)) (ev k) → Opening E (T k) (S k) (S (suc k)) p r
      by (by_call q c) = subst (Effect E (T k) (S k) (S (suc k))) e c.effect
      by (by_change c z) = absurd (impossible (cc (e, z)))
