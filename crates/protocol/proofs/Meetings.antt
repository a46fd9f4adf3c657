-- A waiting job meets one section, an older one, whose ceiling reaches it.
use mathlib.Core.Path.{◌≡◌, sym, ap, subst, ◌∙◌}
use mathlib.Core.Logic.{◌⊎◌, inl, inr}
use Prim.Native.Nat.{ℕ, ◌≤◌, ◌<◌}
use native.Mathlib.Omega.{arith}
use native.Mathlib.Decide.{dec_lt, dec_le}
use Rattle.protocol.specs.Tasks.{Table, priority, setting}
use Rattle.protocol.specs.State.{State}
use Rattle.protocol.specs.Running.{ceiling, system_priority, Rule}
use Rattle.protocol.specs.Acting.{section}
use Rattle.protocol.specs.Trace.{Event, Open, Waits}
use Rattle.protocol.specs.ShortWaits.{Counts, Sees, Counted, Meets, OneToAWait, AboveSetting}
use Rattle.protocol.proofs.Chain.{low, high, chain_order, chain_within}
use Rattle.protocol.proofs.Invariant.{Unfinished}
use Rattle.protocol.proofs.Runner.{Runs, runs}
use Rattle.protocol.proofs.Lows.{Awake, awake_live, holder_inside, tops_holders, Low, lows, frees}
use Rattle.protocol.proofs.Runs.{Run, inv}
use Rattle.protocol.proofs.Sections.{was_open, Opened, opened_by, opened_in, same_table}
use Rattle.protocol.proofs.Exclusion.{open_once}
use Rattle.protocol.proofs.Waiting.{awake_in, older}

module _ {E : Rule} {C : Counts} {T : ℕ → Table} {S : ℕ → State} {ev : ℕ → Event} (G : Run E T S ev) where
  -- a lower job that runs has a section open, and that was open when the wait began: where it held nothing, no awake job would be above it
  pub only_older : (p a q k : ℕ) → Waits ev p a k → Sees E C T S ev p q k
      → (o r : ℕ) × Open ev o (priority (T k) q) r k × Open ev o (priority (T k) q) r a
  only_older p a q k w v =
      let I = (inv G k).sound in
      let i = awake_in G k w in
      let R : Runs E (T k) (S k) q = runs v.runs in
      let r = ((S k).entry q).held in
      let x =
      opened_by G k (section q r)
      ((I.each q).mark (λ z. omega (arith, i.2, v.lower, frees G.lawful (G.accepted k) I R z i.0 i.3))) in
      (x.0, r, x.1, was_open x.1 (older G k w v.lower x.1) (omega (arith, w.made)))

-- Where a state counts, and a lower job runs in it, the job that waits is above the system priority.
abbrev pub Fair : Rule → Counts → (ℕ → Table) → (ℕ → State) → (ℕ → Event) → Type 0
Fair E C T S ev = (p q k : ℕ) → Sees E C T S ev p q k → Counted E C T S ev p k → system_priority (T k) (S k).entry < p

module _ {E : Rule} {C : Counts} {T : ℕ → Table} {S : ℕ → State} {ev : ℕ → Event} (F : Fair E C T S ev) (G : Run E T S ev) where
  -- the job that waits, where a lower one runs
  low_in_lem : {p a q : ℕ} (k : ℕ) → Waits ev p a k → Sees E C T S ev p q k → Counted E C T S ev p k
      → (i : ℕ) × (i < (T k).size) × (priority (T k) i ≡ p) × Low (T k) (S k) q i
  low_in_lem {p} {a} {q} k w v c =
      let y = awake_in G k w in (
        y.0,
        y.1,
        y.2,
        lows G.lawful (G.accepted k) (inv G k).sound (runs v.runs) y.0 y.3
            (omega (arith, y.2, F p q k v c)) (omega (arith, y.2, v.lower)),
      )

  -- the ceiling of the section that is met reaches the job
  met_reaches : {p a o : ℕ} (k : ℕ) → Waits ev p a k → (m : Meets E C T S ev p o k) → p ≤ ceiling (T k) m.resource
  met_reaches {p} {a} {o} k w m =
      let I = (inv G k).sound in
      let A = G.accepted k in
      let y = low_in_lem k w m.sees m.counted in
      let l = y.3 in
      let x = opened_in G k m.has in
      let q : x.0.place ≡ l.last.place =
      A.unique x.0.place l.last.place (holder_inside A I x.0 x.1) (holder_inside A I l.last l.is_open)
      (x.2 ∙ ap (priority (T k)) (sym l.held)) in
      let e : m.resource ≡ l.last.resource =
      sym x.3 ∙ sym (I.holder x.0 x.1).held ∙ ap (λ z. ((S k).entry z).held) q ∙ (I.holder l.last l.is_open).held in
      omega (arith, y.2, l.reaches, ap (ceiling (T k)) e)

  -- of two meetings in one wait, the earlier is with the later's section: in the chain neither can lie above the other
  earlier_same : {p a o u : ℕ} (j k : ℕ) → Waits ev p a j → Waits ev p a k → j ≤ k → Meets E C T S ev p o j → Meets E C T S ev p u k → o ≡ u
  earlier_same {p} {a} {o} {u} j k v w le m n =
      let lt : u < j = omega (arith, older G k w n.sees.lower n.has, v.made) in
      let h = was_open {j = j} n.has lt le in
      let t = opened_in G j m.has in
      let x = opened_in G j h in
      go t x h (same_table G j k n.has lt le) (chain_order (T j) 0 (S j).sections t.0 x.0 (inv G j).sound.chain t.1 x.1)
    where
      go : (t : Opened (T j) (S j) (priority (T j) m.lower) m.resource) (x : Opened (T j) (S j) (priority (T k) n.lower) n.resource)
          → Open ev u (priority (T k) n.lower) n.resource j → T j ≡ T k
          → (t.0 ≡ x.0) ⊎ ((high (T j) t.0 < low (T j) x.0) ⊎ (high (T j) x.0 < low (T j) t.0)) → o ≡ u
      go t x h s (inl e) =
          open_once G
          (subst (λ z. Open ev o z n.resource j) (sym t.2 ∙ ap (low (T j)) e ∙ x.2)
          (subst (λ z. Open ev o (priority (T j) m.lower) z j) (sym t.3 ∙ ap (λ y. y.resource) e ∙ x.3) m.has)) h
      go t x h s (inr (inl d)) =
          absurd (omega (
            arith,
            t.2,
            chain_within (T j) 0 (S j).sections t.0 (inv G j).sound.chain t.1,
            tops_holders G.lawful (G.accepted j) (inv G j).sound (runs m.sees.runs) x.0 x.1,
          ))
      go t x h s (inr (inr d)) =
          absurd (omega (arith, t.2, m.sees.lower, met_reaches k w n, ap (ceiling (T j)) x.3, ap (λ U. ceiling U n.resource) s))

  -- all meetings of one wait are with one section
  pub one_to_a_wait : OneToAWait E C T S ev
  one_to_a_wait p a j k o u v w m n = go (dec_le j k)
    where
      go : Dec (j ≤ k) → o ≡ u
      go (yes le) = earlier_same j k v w le m n
      go (no gt) = sym (earlier_same k j w v (omega arith) n m)

  -- after its first sleep a job meets only sections of tasks above its own setting
  pub above_setting : AboveSetting E C T S ev
  above_setting p a q k i lt e w v c rested =
      let y = low_in_lem k w v c in
      let s : y.0 ≡ i = (G.accepted k).unique y.0 i y.1 lt (y.2 ∙ sym e) in
      go (subst (Low (T k) (S k) q) s y.3) (dec_lt (setting (T k) i) (priority (T k) q))
    where
      go : Low (T k) (S k) q i → Dec (setting (T k) i < priority (T k) q) → setting (T k) i < priority (T k) q
      go l (yes h) = h
      go l (no h) =
          let u : Unfinished ((S k).entry i) = awake_live ((S k).entry i).status (subst Awake (sym l.waits) tt) in
          let K = (inv G k).sound.each i in
          absurd (omega (
            arith,
            l.reaches,
            K.reach (K.rested u rested) u l.last l.is_open (omega (arith, ap (priority (T k)) l.held)),
          ))
