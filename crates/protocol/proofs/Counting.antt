-- A job has met at most one section more than it made sleeps: meetings with as many sleeps behind them are in one wait.
use mathlib.Core.Path.{◌≡◌, refl, sym, ap, subst, ◌∙◌}
use mathlib.Core.Logic.{inl}
use Prim.Native.Nat.{ℕ, zero, suc, ◌+◌, ◌≤◌, ◌<◌}
use native.Mathlib.Omega.{arith}
use native.Mathlib.Decide.{dec_lt, dec_le, ℕ_discrete}
use Rattle.searches.proofs.Testing.{impossible}
use Rattle.protocol.specs.Tasks.{Table, priority}
use Rattle.protocol.specs.State.{State}
use Rattle.protocol.specs.Running.{Rule}
use Rattle.protocol.specs.Trace.{Event, released, slept, ended, Waits, Has}
use Rattle.protocol.specs.ShortWaits.{Counts, Met, OneMoreThanSleeps}
use Rattle.protocol.proofs.Invariant.{Unfinished}
use Rattle.protocol.proofs.Lows.{awake_live}
use Rattle.protocol.proofs.Runs.{Link, by_call, by_change, Run, next}
use Rattle.protocol.proofs.Waiting.{Stands, AwakeJob, carried, begun_at, awake_in}
use Rattle.protocol.proofs.Meetings.{Fair, one_to_a_wait}
use Rattle.protocol.proofs.Pigeons.{pigeons}

-- an earlier state of a job
pub has_until : {ev : ℕ → Event} {p a j k : ℕ} → Has ev p a k → a < j → j ≤ k → Has ev p a j
has_until w lt le = record { began = w.began; made = lt; going = λ x lo hi e. w.going x lo (omega arith) e }

module _ {E : Rule} {T : ℕ → Table} {S : ℕ → State} {ev : ℕ → Event} (G : Run E T S ev) where
  -- until its job ends a task has that job
  pub has_job : {p a : ℕ} (k : ℕ) → Has ev p a k → Stands (T k) (S k) p Unfinished
  has_job zero w = absurd (omega (arith, w.made))
  has_job {p} {a} (suc k) w = go (ℕ_discrete a k) (next G k) (has_job k)
    where
      go : Dec (a ≡ k) → Link E (T k) (T (suc k)) (S k) (S (suc k)) (ev k) → (Has ev p a k → Stands (T k) (S k) p Unfinished)
          → Stands (T (suc k)) (S (suc k)) p Unfinished
      go (yes q) l more =
          let y = begun_at G k p (inl (subst (λ x. ev x ≡ released p) q w.began)) in
          (y.0, y.1, y.2, awake_live ((S (suc k)).entry y.0).status y.3)
      go (no ne) (by_call q c) more =
          let b : a < k = omega (arith, w.made) in
          let y = more (has_until w b (omega arith)) in
          subst (λ U. Stands U (S (suc k)) p Unfinished) (sym q)
          (y.0, y.1, y.2, (c.live y.0 y.3 (λ e. w.going k b (omega arith) (e ∙ ap ended y.2))).0)
      go (no ne) (by_change c z) more = carried c p Unfinished (λ e u. u) (more (has_until w (omega (arith, w.made)) (omega arith)))

  -- and its sleeps do not fall
  pub sleeps_rise : {p a : ℕ} (j k i x : ℕ) → Has ev p a k → a < j → j ≤ k → i < (T j).size → priority (T j) i ≡ p
      → x < (T k).size → priority (T k) x ≡ p → ((S j).entry i).sleeps ≤ ((S k).entry x).sleeps
  sleeps_rise j zero i x w lo hi li ei lx ex = absurd (omega arith)
  sleeps_rise {p} {a} j (suc k) i x w lo hi li ei lx ex = go (dec_le j k) (next G k) (sleeps_rise j k i)
    where
      go : Dec (j ≤ k) → Link E (T k) (T (suc k)) (S k) (S (suc k)) (ev k)
          → ((y : ℕ) → Has ev p a k → a < j → j ≤ k → i < (T j).size → priority (T j) i ≡ p → y < (T k).size → priority (T k) y ≡ p
          → ((S j).entry i).sleeps ≤ ((S k).entry y).sleeps)
          → ((S j).entry i).sleeps ≤ ((S (suc k)).entry x).sleeps
      go (no gt) l more =
          let q : j ≡ suc k = omega arith in
          let s : i ≡ x =
          (G.accepted (suc k)).unique i x (subst (λ y. i < (T y).size) q li) lx (subst (λ y. priority (T y) i ≡ p) q ei ∙ sym ex) in
          omega (arith, ap (λ y. ((S y).entry i).sleeps) q, ap (λ y. ((S (suc k)).entry y).sleeps) s)
      go (yes le) (by_call q c) more =
          let h = has_until {j = k} w (omega arith) (omega arith) in
          let y = has_job k h in
          let s : y.0 ≡ x =
          (G.accepted k).unique y.0 x y.1 (subst (λ U. x < U.size) q lx) (y.2 ∙ sym (subst (λ U. priority U x ≡ p) q ex)) in
          let d = c.live y.0 y.3 (λ e. w.going k (omega arith) (omega arith) (e ∙ ap ended y.2)) in
          omega (arith, more y.0 h lo le li ei y.1 y.2, d.1, ap (λ z. ((S (suc k)).entry z).sleeps) s)
      go (yes le) (by_change c z) more =
          let h = has_until {j = k} w (omega arith) (omega arith) in
          let y = has_job k h in
          let g = c.stays y.0 y.3 in
          let s : g.0 ≡ x = (G.accepted (suc k)).unique g.0 x g.1 lx (g.2 ∙ y.2 ∙ sym ex) in
          omega (arith, more y.0 h lo le li ei y.1 y.2, ap (λ e. e.sleeps) g.3, ap (λ v. ((S (suc k)).entry v).sleeps) s)

  -- a wait goes on as long as the count of sleeps stands
  waits_on : {p a b : ℕ} (j k i x : ℕ) → Has ev p a k → a ≤ b → Waits ev p b j → j ≤ k → i < (T j).size → priority (T j) i ≡ p
      → x < (T k).size → priority (T k) x ≡ p → ((S j).entry i).sleeps ≡ ((S k).entry x).sleeps → Waits ev p b k
  waits_on {p} {a} {b} j k i x h ab w le li ei lx ex e = record {
    began = w.began;
    made = omega (arith, w.made);
    awake = λ y lo hi z. go y lo hi z (dec_lt y j);
    going = λ y lo hi z. h.going y (omega arith) hi z;
  }
    where
      by : (y : ℕ) → b < y → y < k → j ≤ y → ev y ≡ slept p → Link E (T y) (T (suc y)) (S y) (S (suc y)) (ev y) → ⊥
      by y lo hi d z (by_call q c) =
          let before = has_until {j = y} h (omega arith) (omega arith) in
          let v = has_job y before in
          omega (
            arith,
            e,
            c.counts v.0 v.1 (z ∙ ap slept (sym v.2)),
            sleeps_rise j y i v.0 before (omega (arith, w.made)) d li ei v.1 v.2,
            sleeps_rise (suc y) k v.0 x h (omega arith) hi (subst (λ U. v.0 < U.size) (sym q) v.1)
                (subst (λ U. priority U v.0 ≡ p) (sym q) v.2) lx ex,
          )
      by y lo hi d z (by_change c n) = impossible (cc (n, z))

      go : (y : ℕ) → b < y → y < k → ev y ≡ slept p → Dec (y < j) → ⊥
      go y lo hi z (yes d) = w.awake y lo d z
      go y lo hi z (no d) = by y lo hi (omega arith) z (next G y)

module _ {E : Rule} {C : Counts} {T : ℕ → Table} {S : ℕ → State} {ev : ℕ → Event} (F : Fair E C T S ev) (G : Run E T S ev) where
  module _ {p a k : ℕ} (h : Has ev p a k) where
    -- where the job stood when it met the section
    met_at : {o : ℕ} → (m : Met E C T S ev p a k o) → Stands (T m.time) (S m.time) p AwakeJob
    met_at m = awake_in G m.time m.waits

    -- and the sleeps it had made then
    met_sleeps : {o : ℕ} → Met E C T S ev p a k o → ℕ
    met_sleeps m = ((S m.time).entry (met_at m).0).sleeps

    -- meetings with as many sleeps behind them are with one section, the earlier first
    earlier_one : {o u : ℕ} (m : Met E C T S ev p a k o) (n : Met E C T S ev p a k u) → m.time ≤ n.time → met_sleeps m ≡ met_sleeps n → o ≡ u
    unfolding met_sleeps
    earlier_one {o} {u} m n le e =
        let x = met_at m in
        let y = met_at n in
        one_to_a_wait F G p m.wait m.time n.time o u m.waits
        (waits_on G m.time n.time x.0 y.0
        (has_until h (omega (arith, n.within.0, n.waits.made)) n.within.1) m.within.0 m.waits le x.1 x.2 y.1 y.2 e)
        m.meets n.meets

    -- in either order
    one_by_sleeps : {o u : ℕ} (m : Met E C T S ev p a k o) (n : Met E C T S ev p a k u) → met_sleeps m ≡ met_sleeps n → o ≡ u
    one_by_sleeps {o} {u} m n e = go (dec_le m.time n.time)
      where
        go : Dec (m.time ≤ n.time) → o ≡ u
        go (yes le) = earlier_one m n le e
        go (no gt) = sym (earlier_one n m (omega arith) (sym e))

    -- and there are no more sleeps behind one than the job has made
    met_bound : {o : ℕ} (i : ℕ) → i < (T k).size → priority (T k) i ≡ p → (m : Met E C T S ev p a k o) → met_sleeps m < ((S k).entry i).sleeps + 1
    unfolding met_sleeps
    met_bound i lt e m =
        let x = met_at m in
        omega (arith, sleeps_rise G m.time k x.0 i h (omega (arith, m.within.0, m.waits.made)) m.within.1 x.1 x.2 lt e)

  -- so each section met has a number of sleeps of its own
  pub one_more_than_sleeps : OneMoreThanSleeps E C T S ev
  one_more_than_sleeps p a k i lt e h l d m =
      pigeons (λ o x. (n : Met E C T S ev p a k o) × (x ≡ met_sleeps h n))
      (λ o u x v w. one_by_sleeps h v.0 w.0 (sym v.1 ∙ w.1))
      (((S k).entry i).sleeps + 1) l d
      (λ o y. (met_sleeps h (m o y), met_bound h i lt e (m o y), (m o y, refl)))
