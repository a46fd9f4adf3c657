-- How many ticks of a window a stream of jobs can have: released T apart, each over within R, and with B ticks at most.
use Prim.Native.Nat.{ℕ, zero, suc, ◌+◌, ◌-◌, ◌*◌, min, ◌≤◌, ◌<◌}
use mathlib.Core.Path.{◌≡◌, sym, ap, subst}
use mathlib.Core.Logic.{◌⊎◌, inl, inr, ⊎_elim}
use native.Mathlib.Nat.{suc-mul}
use native.Mathlib.Omega.{arith}
use native.Mathlib.Decide.{dec_lt}
use Rattle.equations.specs.Counting.{ceil}
use Rattle.equations.proofs.Counting.{ceil_step}
use Rattle.timing.specs.Statement.{count}
use Rattle.timing.proofs.Counts.{count_split, count_most, find, to_last}

-- Ticks f; `Of ρ t` says that the job released at the instant ρ is there in the tick t. It is about the ticks below m.
pub record Stream (f : ℕ → ℕ) (Of : ℕ → ℕ → Type 0) (T B R m : ℕ) : Type 0 where
  pub once : (t : ℕ) → f t ≤ 1
  pub some : (t : ℕ) → t < m → 0 < f t → (ρ : ℕ) × Of ρ t
  pub born : (ρ t : ℕ) → Of ρ t → ρ ≤ t
  pub age : (ρ t : ℕ) → t < m → Of ρ t → t < ρ + R
  pub gap : (ρ σ t u : ℕ) → t ≤ u → Of ρ t → Of σ u → (ρ ≡ σ) ⊎ (ρ + T ≤ σ)
  pub budget : (ρ u n : ℕ) → u + n < m → Of ρ u → Of ρ (u + n) → count f u (suc n) ≤ B
  pub room : (B ≤ R) × (R ≤ T)

module _ {f : ℕ → ℕ} {Of : ℕ → ℕ → Type 0} {T B R m : ℕ} (S : Stream f Of T B R m) (pos : 0 < T) where
  -- the jobs that are there in a window were all released from z on
  abbrev From : ℕ → ℕ → ℕ → Type 0
  From z u n = (σ s : ℕ) → u ≤ s → s < u + n → Of σ s → z ≤ σ

  -- The first job in a window, released at ρ: t is the first tick that counts, `own` ticks from t to before v count, and in the r ticks from v on,
  -- the rest of the window, there are only jobs released a period later.
  record First (u n : ℕ) : Type 0 where
    ρ : ℕ
    t : ℕ
    own : ℕ
    v : ℕ
    r : ℕ
    of : Of ρ t
    inside : (u ≤ t) × (t < v) × (v ≤ ρ + R) × (v + r ≡ u + n)
    few : (own ≤ B) × (t + own ≤ v)
    all : count f u n ≡ own + count f v r
    rest : From (ρ + T) v r

  -- as long as a job may be there, only its ticks count
  own_ticks : (ρ t k : ℕ) → Of ρ t → t + k ≤ m → t + k ≤ ρ + R → count f t k ≤ B
  own_ticks ρ t k of le h = to_last f B t k each
    where
      each : (x : ℕ) → x < k → 0 < f (t + x) → count f t (suc x) ≤ B
      each x lt p =
          let w = S.some (t + x) (omega arith) p in
          ⊎_elim
          (λ e. S.budget ρ t x (omega arith) of (subst (λ σ. Of σ (t + x)) (sym e) w.1))
          (λ late. absurd (omega (arith, S.born w.0 (t + x) w.1, S.room)))
          (S.gap ρ w.0 t (t + x) (omega arith) of w.1)

  -- a window without ticks, or its first job
  first : (u n : ℕ) → u + n ≤ m → (count f u n ≡ 0) ⊎ First u n
  first u n le = go (find f u n)
    where
      -- the first tick that counts is its job's
      from_tick : (x ρ : ℕ) → x < n → count f u x ≡ 0 → Of ρ (u + x) → First u n
      from_tick x ρ lt none of =
          let t = u + x in
          let v = min (u + n) (ρ + R) in
          let k = v - t in
          let r = u + n - v in
          let young : t < ρ + R = S.age ρ t (omega arith) of in
          let whole : x + (k + r) ≡ n = omega arith in
          let till : t + k ≡ v = omega arith in
          record {
            ρ = ρ;
            t = t;
            own = count f t k;
            v = v;
            r = r;
            of = of;
            inside = (omega arith, omega arith, omega arith, omega arith);
            few = (own_ticks ρ t k of (omega arith) (omega arith), omega (arith, count_most f t k S.once));
            all = omega (arith, none, ap (count f u) whole, count_split f u x (k + r), count_split f t k r, ap (λ y. count f y r) till);
            rest = λ σ s lo hi p.
                ⊎_elim (λ e. absurd (omega (arith, S.age σ s (omega arith) p, e))) (λ late. late) (S.gap ρ σ t s (omega arith) of p);
          }

      go : (count f u n ≡ 0) ⊎ ((x : ℕ) × (x < n) × (0 < f (u + x)) × (count f u x ≡ 0)) → (count f u n ≡ 0) ⊎ First u n
      go (inl none) = inl none
      go (inr (x, lt, p, none)) = let w = S.some (u + x) (omega arith) p in inr (from_tick x w.0 lt none w.1)

  -- In a window of k ticks at most, that ends a + d after z, jobs released from z on have as many as fit the length a, B each, and d ticks more.
  abbrev Fresh : ℕ → Type 0
  Fresh k = (z u n a d : ℕ) → n ≤ k → u + n ≤ m → u + n ≤ z + a + d → From z u n → count f u n ≤ ceil a T * B + d

  -- the first job has B, and those after it have a period less; or the window is d ticks long
  fresh_count : (k : ℕ) → Fresh k
  fresh_count zero z u n a d fuel le ends new = omega (arith, count_most f u n S.once)
  fresh_count (suc k) z u n a d fuel le ends new = go (fresh_count k) (first u n le) (dec_lt 0 a)
    where
      go : Fresh k → (count f u n ≡ 0) ⊎ First u n → Dec (0 < a) → count f u n ≤ ceil a T * B + d
      go more (inl none) c = omega arith
      go more (inr w) (yes p) =
          let i = w.inside in
          let since : z ≤ w.ρ = new w.ρ w.t i.0 (omega arith) w.of in
          omega (
            arith,
            w.all,
            w.few,
            more (w.ρ + T) w.v w.r (a - T) d (omega arith) (omega arith) (omega arith) w.rest,
            ap (λ y. y * B) (ceil_step a T p pos),
            suc-mul (ceil (a - T) T) B,
          )
      go more (inr w) (no p) =
          let i = w.inside in
          let since : z ≤ w.ρ = new w.ρ w.t i.0 (omega arith) w.of in
          omega (arith, w.all, w.few, since, count_most f w.v w.r S.once, S.born w.ρ w.t w.of)

  -- in any window: where the first job has less than B, the others come later by as much
  pub any_count : (u n : ℕ) → u + n ≤ m → count f u n ≤ ceil (n + R - B) T * B
  any_count u n le = go (first u n le)
    where
      go : (count f u n ≡ 0) ⊎ First u n → count f u n ≤ ceil (n + R - B) T * B
      go (inl none) = omega arith
      go (inr w) =
          let i = w.inside in
          let room = S.room in
          let few = w.few in
          omega (
            arith,
            w.all,
            fresh_count w.r (w.ρ + T) w.v w.r (n + R - B - T) (B - w.own) (omega arith) (omega arith) (omega arith) w.rest,
            ap (λ y. y * B) (ceil_step (n + R - B) T (omega arith) pos),
            suc-mul (ceil (n + R - B - T) T) B,
          )

  -- in a window whose jobs were all released in it
  pub new_count : (u n : ℕ) → u + n ≤ m → ((σ s : ℕ) → u ≤ s → s < u + n → Of σ s → u ≤ σ) → count f u n ≤ ceil n T * B
  new_count u n le new = omega (arith, fresh_count n u u n n 0 (omega arith) le (omega arith) new)
