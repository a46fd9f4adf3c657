-- A job is awake all through its wait, and a lower job that runs then is inside an older section.
use mathlib.Core.Path.{◌≡◌, sym, ap, subst, ◌∙◌}
use mathlib.Core.Logic.{◌⊎◌, ⊎_elim}
use Prim.Native.Nat.{ℕ, zero, suc, ◌≤◌, ◌<◌}
use native.Mathlib.Omega.{arith}
use native.Mathlib.Decide.{dec_lt, ℕ_discrete}
use Rattle.searches.proofs.Testing.{impossible}
use Rattle.protocol.specs.Tasks.{Table, priority}
use Rattle.protocol.specs.State.{Entry, State}
use Rattle.protocol.specs.Running.{Rule}
use Rattle.protocol.specs.Trace.{Event, released, resumed, slept, ended, Open, Waits}
use Rattle.protocol.proofs.Invariant.{Unfinished}
use Rattle.protocol.proofs.Runner.{runs}
use Rattle.protocol.proofs.Lows.{Awake, awake_live, frees}
use Rattle.protocol.proofs.Steps.{subject}
use Rattle.protocol.proofs.Called.{Called}
use Rattle.protocol.proofs.Runs.{Changed, Link, by_call, by_change, Run, inv, next}
use Rattle.protocol.proofs.Sections.{opening}

-- The task of priority p stands at a place of the table, and its entry is as Q says.
abbrev pub Stands : Table → State → ℕ → (Entry → Type 0) → Type 0
Stands U s p Q = (i : ℕ) × (i < U.size) × (priority U i ≡ p) × Q (s.entry i)

-- The job is awake.
abbrev pub AwakeJob : Entry → Type 0
AwakeJob e = Awake e.status

-- a change of the table leaves an unfinished job's entry as it was
pub carried : {E : Rule} {T U : Table} {s t : State} → Changed E T s U t → (p : ℕ) (Q : Entry → Type 0) → ((e : Entry) → Q e → Unfinished e)
    → Stands T s p Q → Stands U t p Q
carried {s} c p Q u y =
    let g = c.stays y.0 (u (s.entry y.0) y.3) in
    (g.0, g.1, g.2 ∙ y.2, subst Q (sym g.3) y.3)

-- an earlier state of a wait
waits_until : {ev : ℕ → Event} {p a j k : ℕ} → Waits ev p a k → a < j → j ≤ k → Waits ev p a j
waits_until w lt le = record {
  began = w.began;
  made = lt;
  awake = λ x lo hi e. w.awake x lo (omega arith) e;
  going = λ x lo hi e. w.going x lo (omega arith) e;
}

module _ {E : Rule} {T : ℕ → Table} {S : ℕ → State} {ev : ℕ → Event} (G : Run E T S ev) where
  -- a release or a resume finds its task, and leaves its job awake
  pub begun_at : (k p : ℕ) → (ev k ≡ released p) ⊎ (ev k ≡ resumed p) → Stands (T (suc k)) (S (suc k)) p AwakeJob
  begun_at k p h = by (next G k)
    where
      go : Called E (T k) (S k) (ev k) (S (suc k)) → Stands (T k) (S (suc k)) p AwakeJob
      go c =
          let x = c.named (λ z. ⊎_elim (λ e. impossible (cc (z, e))) (λ e. impossible (cc (z, e))) h) in
          let e : priority (T k) x.0 ≡ p = x.2 ∙ ⊎_elim (λ e. ap subject e) (λ e. ap subject e) h in
          (x.0, x.1, e, c.begins x.0 x.1 (subst (λ y. (ev k ≡ released y) ⊎ (ev k ≡ resumed y)) (sym e) h))

      by : Link E (T k) (T (suc k)) (S k) (S (suc k)) (ev k) → Stands (T (suc k)) (S (suc k)) p AwakeJob
      by (by_call q c) = subst (λ U. Stands U (S (suc k)) p AwakeJob) (sym q) (go c)
      by (by_change c z) = absurd (⊎_elim (λ e. impossible (cc (z, e))) (λ e. impossible (cc (z, e))) h)

  -- all through its wait a job is awake
  pub awake_in : {p a : ℕ} (k : ℕ) → Waits ev p a k → Stands (T k) (S k) p AwakeJob
  awake_in zero w = absurd (omega (arith, w.made))
  awake_in {p} {a} (suc k) w = go (ℕ_discrete a k) (next G k) (awake_in k)
    where
      go : Dec (a ≡ k) → Link E (T k) (T (suc k)) (S k) (S (suc k)) (ev k) → (Waits ev p a k → Stands (T k) (S k) p AwakeJob)
          → Stands (T (suc k)) (S (suc k)) p AwakeJob
      go (yes q) l more = begun_at k p (subst (λ x. (ev x ≡ released p) ⊎ (ev x ≡ resumed p)) q w.began)
      go (no ne) (by_call q c) more =
          let b : a < k = omega (arith, w.made) in
          let y = more (waits_until w b (omega arith)) in
          subst (λ U. Stands U (S (suc k)) p AwakeJob) (sym q) (
            y.0,
            y.1,
            y.2,
            c.awake y.0 y.3
                (λ e. w.awake k b (omega arith) (e ∙ ap slept y.2)) (λ e. w.going k b (omega arith) (e ∙ ap ended y.2)),
          )
      go (no ne) (by_change c z) more =
          carried c p AwakeJob (λ e. awake_live e.status) (more (waits_until w (omega (arith, w.made)) (omega arith)))

  -- a lower job opens no section during a wait: what it has open is older
  pub older : {p a o l r : ℕ} (k : ℕ) → Waits ev p a k → l < p → Open ev o l r k → o < a
  older {p} {a} {o} {l} {r} k w lo v = go (dec_lt o a) (ℕ_discrete o a)
    where
      go : Dec (o < a) → Dec (o ≡ a) → o < a
      go (yes h) d = h
      go (no h) (yes q) = absurd (⊎_elim (λ e. impossible (cc (ap ev q, e, v.began))) (λ e. impossible (cc (ap ev q, e, v.began))) w.began)
      go (no h) (no d) =
          let g = opening G o l r v.began in
          let y = awake_in o (waits_until {j = o} w (omega arith) (omega (arith, v.made))) in
          absurd (omega (
            arith,
            g.names,
            y.2,
            frees G.lawful (G.accepted o) (inv G o).sound (runs g.runs) g.free y.0 y.3,
          ))
