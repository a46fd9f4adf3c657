-- The jobs of a task as a stream, as long as each was done in time.
use Prim.Native.Nat.{ℕ, suc, ◌+◌, ◌-◌, ◌≤◌, ◌<◌}
use mathlib.Core.Path.{◌≡◌, sym, ap, subst}
use mathlib.Core.Logic.{◌⊎◌, inl, inr, ⊎_elim}
use native.Mathlib.Omega.{arith}
use native.Mathlib.Decide.{dec_lt}
use Rattle.searches.proofs.Testing.{impossible}
use Rattle.searches.proofs.Sums.{sum_to_add}
use Rattle.protocol.specs.State.{none}
use Rattle.protocol.specs.Running.{in_force}
use Rattle.protocol.proofs.Invariant.{Unfinished}
use Rattle.protocol.proofs.Runner.{Runs, runs}
use Rattle.timing.specs.Statement.{At, count}
use Rattle.timing.proofs.Counts.{count_more}
use Rattle.timing.proofs.Streams.{Stream}
use Rattle.timing.proofs.Instants.{first_rises, instant, made_by, in_order}
use Rattle.timing.proofs.Jobs.{live_there, no_second}
use Rattle.timing.proofs.Executing.{executes_once, rests_once, executes_runs, rests_asleep}
use Rattle.timing.proofs.Given.{Given, tick, during, exec, rest, task, value, There, apart, works, sleeps, value_room, period_some}

-- Before the tick r + n the job of i that was released at the instant r executed in all its C ticks, and slept through all its S.
abbrev pub Done : Given → ℕ → ℕ → ℕ → Type 0
Done G i r n = (count (exec G i) r n ≡ (task G i).run) × (count (rest G i) r n ≡ (task G i).sleep)

-- Of each job that is there in a tick below m, and was due by then, nothing is left.
abbrev pub Before : Given → ℕ → Type 0
Before G m = (i a r n : ℕ) → i < G.table.size → At G.clock a r → value G i ≤ n → r + n < m → There G i a (tick G (r + n)) → Done G i r n

module _ (G : Given) (i : ℕ) (lt : i < G.table.size) where
  -- ---- who executes or rests has a job

  -- who executes
  pub exec_live : (t : ℕ) → 0 < exec G i t → ((during G t).entry i).status ≡ none → ⊥
  exec_live t h z =
      let R : Runs in_force G.table (during G t) i = runs (executes_runs G.accepted G.calls G.clock i t lt h) in
      let stands = R.stands in
      impossible cc

  -- who rests
  pub rest_live : (t : ℕ) → 0 < rest G i t → ((during G t).entry i).status ≡ none → ⊥
  rest_live t h z = let a = rests_asleep G.accepted G.calls G.clock i t h in impossible cc

  -- nobody does both
  both_once : (t : ℕ) → exec G i t + rest G i t ≤ 1
  both_once t = go (dec_lt 0 (exec G i t)) (dec_lt 0 (rest G i t))
    where
      clash : 0 < exec G i t → 0 < rest G i t → ⊥
      clash p q =
          let R : Runs in_force G.table (during G t) i = runs (executes_runs G.accepted G.calls G.clock i t lt p) in
          let stands = R.stands in
          let a = rests_asleep G.accepted G.calls G.clock i t q in
          impossible cc

      go : Dec (0 < exec G i t) → Dec (0 < rest G i t) → exec G i t + rest G i t ≤ 1
      go (yes p) (yes q) = absurd (clash p q)
      go (yes p) (no q) = omega (arith, executes_once G.accepted G.calls G.clock i t)
      go (no p) q = omega (arith, rests_once G.accepted G.calls G.clock i t)

  -- ---- the job in a tick

  -- The job of the task at i that was released at the instant ρ executes or rests in the tick t.
  abbrev pub Of : ℕ → ℕ → Type 0
  Of ρ t = (a : ℕ) × At G.clock a ρ × There G i a (tick G t) × (0 < exec G i t + rest G i t)

  -- who executes or rests has such a job
  pub of_busy : (t : ℕ) → 0 < exec G i t + rest G i t → (ρ : ℕ) × Of ρ t
  of_busy t h =
      let w = live_there G.accepted G.calls i (tick G t) lt (live (dec_lt 0 (exec G i t))) in
      let d = instant G.clock w.0 (suc t) w.1.made in
      (d.0, (w.0, d.2, w.1, h))
    where
      live : Dec (0 < exec G i t) → Unfinished ((during G t).entry i)
      live (yes p) = exec_live t p
      live (no p) = rest_live t (omega arith)

  -- it was released before
  pub of_born : (ρ t : ℕ) → Of ρ t → ρ ≤ t
  of_born ρ t o = made_by G.clock o.0 ρ t o.1 o.2.made

  -- of two ticks the later has the same job, or one that was released T later
  of_order : (ρ σ t u : ℕ) → t ≤ u → (x : Of ρ t) → (y : Of σ u) → (x.0 ≡ y.0) ⊎ (ρ + (task G i).period ≤ σ)
  of_order ρ σ t u le x y = go (dec_lt x.0 y.0) (dec_lt y.0 x.0)
    where
      go : Dec (x.0 < y.0) → Dec (y.0 < x.0) → (x.0 ≡ y.0) ⊎ (ρ + (task G i).period ≤ σ)
      go (yes p) q = inr (apart G i x.0 y.0 ρ σ lt p x.2.began y.2.began x.1 y.1)
      go (no p) (yes q) =
          absurd (no_second G.accepted G.calls i y.0 x.0 (tick G u) lt y.2 x.2.began q
          (omega (arith, x.2.made, first_rises G.clock (suc t) (suc u) (omega arith))))
      go (no p) (no q) = inl (omega arith)

  -- so of their instants
  of_gap : (ρ σ t u : ℕ) → t ≤ u → Of ρ t → Of σ u → (ρ ≡ σ) ⊎ (ρ + (task G i).period ≤ σ)
  of_gap ρ σ t u le x y = ⊎_elim (λ e. inl (same e)) (λ g. inr g) (of_order ρ σ t u le x y)
    where
      same : x.0 ≡ y.0 → ρ ≡ σ
      same e =
          omega (
            arith,
            in_order G.clock x.0 y.0 ρ σ (omega arith) x.1 y.1,
            in_order G.clock y.0 x.0 σ ρ (omega arith) y.1 x.1,
          )

  -- and a job of one instant is one job
  of_same : (ρ t u : ℕ) → t ≤ u → (x : Of ρ t) → (y : Of ρ u) → x.0 ≡ y.0
  of_same ρ t u le x y = ⊎_elim (λ e. e) (λ g. absurd (omega (arith, period_some G i lt))) (of_order ρ ρ t u le x y)

  -- ---- its ticks

  -- up to a tick in which it is there it executes in C at most, and rests in S
  spent : (a u n : ℕ) → a < tick G u → There G i a (tick G (u + n))
      → (count (exec G i) u (suc n) ≤ (task G i).run) × (count (rest G i) u (suc n) ≤ (task G i).sleep)
  spent a u n l h =
      let next : tick G (u + n) ≡ G.clock.first (u + suc n) = ap G.clock.first (omega arith) in
      let there = subst (There G i a) next h in
      (works G i a u (suc n) lt l there, sleeps G i a u (suc n) lt l there)

  -- so from one of its ticks to another
  budget : (ρ u n : ℕ) → Of ρ u → Of ρ (u + n) → (count (exec G i) u (suc n) ≤ (task G i).run) × (count (rest G i) u (suc n) ≤ (task G i).sleep)
  budget ρ u n x y = spent y.0 u n (omega (arith, x.2.made, of_same ρ u (u + n) (omega arith) x y)) y.2

  module _ {m : ℕ} (B : Before G m) where
    -- it is not due yet: of one that is, nothing is left
    pub of_age : (ρ t : ℕ) → t < m → Of ρ t → t < ρ + value G i
    of_age ρ t l o = go (dec_lt t (ρ + value G i))
      where
        left : (n : ℕ) → ρ + n ≡ t → value G i ≤ n → ⊥
        left n e due =
            let there = subst (λ x. There G i o.0 (tick G x)) (sym e) o.2 in
            omega (
              arith,
              o.3,
              B i o.0 ρ n lt o.1 due (omega arith) there,
              spent o.0 ρ n o.1.till there,
              count_more (exec G i) ρ n,
              count_more (rest G i) ρ n,
              ap (λ x. exec G i x + rest G i x) e,
            )

        go : Dec (t < ρ + value G i) → t < ρ + value G i
        go (yes h) = h
        go (no h) = absurd (left (t - ρ) (omega (arith, of_born ρ t o)) (omega arith))

    -- the ticks in which it executes
    pub exec_stream : Stream (exec G i) Of (task G i).period (task G i).run (value G i) m
    exec_stream = record {
      once = executes_once G.accepted G.calls G.clock i;
      some = λ t l h. of_busy t (omega arith);
      born = of_born;
      age = of_age;
      gap = of_gap;
      budget = λ ρ u n l x y. (budget ρ u n x y).0;
      room = (omega (arith, (value_room G i lt).0), (value_room G i lt).1);
    }

    -- and those in which it executes or rests
    pub both_stream : Stream (λ t. exec G i t + rest G i t) Of (task G i).period ((task G i).run + (task G i).sleep) (value G i) m
    both_stream = record {
      once = both_once;
      some = λ t l h. of_busy t h;
      born = of_born;
      age = of_age;
      gap = of_gap;
      budget = λ ρ u n l x y. omega (arith, sum_to_add (λ x. exec G i (u + x)) (λ x. rest G i (u + x)) (suc n), budget ρ u n x y);
      room = value_room G i lt;
    }
