-- The sections of a task that a window touches, ranked: by how many of the resource their job had opened before, and by that job.
use Prim.Native.Nat.{ℕ, suc, ◌+◌, ◌-◌, ◌*◌, ◌/◌, ◌≤◌, ◌<◌}
use mathlib.Core.Path.{◌≡◌, sym, ap, ◌∙◌}
use native.Mathlib.Nat.{suc-mul, mul-add-div_right, div-eq_of_lt}
use native.Mathlib.Omega.{arith}
use native.Mathlib.Decide.{dec_lt, ℕ_discrete}
use Rattle.searches.proofs.Testing.{impossible}
use Rattle.equations.specs.Counting.{ceil}
use Rattle.equations.proofs.Counting.{ceil_mono, ceil_step, ceil_some, product}
use Rattle.protocol.specs.Tasks.{priority}
use Rattle.protocol.specs.Acting.{section}
use Rattle.protocol.specs.Trace.{released, opened, Open}
use Rattle.protocol.proofs.Sections.{was_open}
use Rattle.timing.specs.Statement.{At}
use Rattle.timing.proofs.Jobs.{holds_at, before_release, no_second}
use Rattle.timing.proofs.Marks.{opened_below, opened_more}
use Rattle.timing.proofs.Sections.{lies_in}
use Rattle.timing.proofs.Given.{Given, state, ev, tick, task, value, There, apart, period_some}

-- ---- numbers

-- two of which neither is below the other are one
pub one : {j k : ℕ} → (j < k → ⊥) → (k < j → ⊥) → j ≡ k
one m n = omega arith

-- in rows of n, the row of a number
row_of : (n p c : ℕ) → c < n → (p * n + c) / n ≡ p
row_of n p c l = omega (arith, mul-add-div_right {m = n} (omega arith) p c, div-eq_of_lt l)

-- equal numbers are in one row, and at one place in it
row_same : (n p q c d : ℕ) → c < n → d < n → p * n + c ≡ q * n + d → (p ≡ q) × (c ≡ d)
row_same n p q c d k l e =
    let same : p ≡ q = sym (row_of n p c k) ∙ ap (λ z. z / n) e ∙ row_of n q d l in
    (same, omega (arith, ap (λ z. z * n) same))

-- ---- a section and its job

-- an open section was opened by the job that is there
pub opened_after : (G : Given) (q r a o k : ℕ) → q < G.table.size → There G q a k → Open (ev G) o (priority G.table q) r k → a < o
opened_after G q r a o k lt h w = go (dec_lt a o) (ℕ_discrete a o)
  where
    go : Dec (a < o) → Dec (a ≡ o) → a < o
    go (yes l) d = l
    go (no l) (yes e) = absurd (let f = sym h.began ∙ ap (ev G) e ∙ w.began in impossible cc)
    go (no l) (no d) =
        let s = lies_in G.accepted G.calls a o q r lt (was_open w (omega arith) (omega (arith, h.made))) in
        let e = ((holds_at G.accepted G.calls a).sound.holder (section q r) s).stands in
        let f = before_release G.accepted G.calls a q lt h.began in
        absurd (impossible cc)

-- The section of r that the call o opened is of a job of q that the window of l ticks from the instant b touches: released before the window's end,
-- and due after its beginning.
pub record Touched (G : Given) (q r b l o : ℕ) : Type 0 where
  pub time : ℕ
  pub birth : ℕ
  pub release : ℕ
  pub born : At G.clock release birth
  pub has : There G q release (tick G time)
  pub began : ev G o ≡ opened (priority G.table q) r
  pub made : o < tick G time
  pub order : release < o
  pub early : b < birth + value G q
  pub late : birth < b + l

-- ---- the ranks

-- the most jobs of q that a window of l ticks touches
abbrev jobs : Given → ℕ → ℕ → ℕ
jobs G q l = ceil (l + value G q) (task G q).period

-- which of them is released at the instant ρ, from 1, where the window begins at the instant b
abbrev nth : Given → ℕ → ℕ → ℕ → ℕ
nth G q b ρ = ceil (ρ + value G q - b) (task G q).period

-- how many sections of r the job of q had opened before the call o
abbrev earlier : Given → ℕ → ℕ → ℕ → ℕ
earlier G q r o = ((state G o).entry q).opened r

-- the rank of a section
abbrev pub rank : {G : Given} {q r b l o : ℕ} → Touched G q r b l o → ℕ
rank {G} {q} {r} {b} {l} {o} x = earlier G q r o * jobs G q l + (nth G q b x.birth - 1)

module _ {G : Given} {q r b l : ℕ} (inside : q < G.table.size) where
  -- a job is one of as many as there are
  nth_inside : {o : ℕ} (x : Touched G q r b l o) → (1 ≤ nth G q b x.birth) × (nth G q b x.birth ≤ jobs G q l)
  nth_inside x = (
    ceil_some (x.birth + value G q - b) (task G q).period (omega (arith, x.early)) (period_some G q inside),
    ceil_mono (x.birth + value G q - b) (l + value G q) (task G q).period (omega (arith, x.late)),
  )

  -- the ranks are below N for each job
  pub rank_below : {o : ℕ} (n : ℕ) (x : Touched G q r b l o) → (G.table.task q).uses r ≤ n → rank x < n * jobs G q l
  rank_below {o} n x le =
      let few = opened_below G.accepted G.calls q inside o r x.began in
      omega (
        arith,
        nth_inside x,
        suc-mul (earlier G q r o) (jobs G q l),
        product (suc (earlier G q r o)) (jobs G q l) n (jobs G q l) (omega arith) (omega arith),
      )

  -- a later job comes after
  later_job : {o p : ℕ} (x : Touched G q r b l o) (y : Touched G q r b l p) → x.release < y.release → nth G q b x.birth < nth G q b y.birth
  later_job x y lt =
      let t = (task G q).period in
      let d = x.birth + value G q - b in
      let e : d + t - t ≡ d = omega arith in
      let far = apart G q x.release y.release x.birth y.birth inside lt x.has.began y.has.began x.born y.born in
      omega (
        arith,
        ap (λ z. ceil z t) e,
        ceil_step (d + t) t (omega (arith, period_some G q inside)) (period_some G q inside),
        ceil_mono (d + t) (y.birth + value G q - b) t (omega (arith, x.early)),
      )

  -- and of one job's sections a later one has more before it
  later_section : {o p : ℕ} (x : Touched G q r b l o) (y : Touched G q r b l p) → x.release ≡ y.release → o < p → earlier G q r o < earlier G q r p
  later_section {o} {p} x y e lt = opened_more G.accepted G.calls q inside r o p lt none_between x.began
    where
      none_between : (k : ℕ) → o < k → k < p → ev G k ≡ released (priority G.table q) → ⊥
      none_between k lo hi f =
          no_second G.accepted G.calls q y.release k (tick G y.time) inside y.has f (omega (arith, x.order)) (omega (arith, y.made))

  -- so a rank is of one section
  pub rank_once : {o p : ℕ} (x : Touched G q r b l o) (y : Touched G q r b l p) → rank x ≡ rank y → o ≡ p
  rank_once {o} {p} x y e =
      let i = nth_inside x in
      let j = nth_inside y in
      let same = row_same (jobs G q l) (earlier G q r o) (earlier G q r p) _ _ (omega arith) (omega arith) e in
      let level : nth G q b x.birth ≡ nth G q b y.birth = omega (arith, same.1) in
      let job : x.release ≡ y.release = one (λ lt. omega (arith, later_job x y lt)) (λ lt. omega (arith, later_job y x lt)) in
      one (λ lt. omega (arith, same.0, later_section x y job lt)) (λ lt. omega (arith, same.0, later_section y x (sym job) lt))
