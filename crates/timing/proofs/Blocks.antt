-- The low ticks of a window in blocks, one for each stretch between sleeps of the late job: the ticks of a block are of one section, so they are no
-- more than the length of its use.
use Prim.Native.Nat.{ℕ, suc, ◌+◌, ◌-◌, ◌≤◌, ◌<◌}
use mathlib.Core.Path.{◌≡◌, refl, sym, ap, ◌∙◌}
use mathlib.Core.Logic.{◌⊎◌, inl, inr}
use mathlib.Core.Bool.{Bool, true, false, not, ◌&&◌}
use native.Mathlib.Omega.{arith}
use native.Mathlib.Decide.{dec_lt}
use lib.Dec.{eqb}
use borrow.Author.Tests.{eqb-true, eq-eqb}
use Rattle.searches.specs.Searches.{at, only}
use Rattle.searches.specs.Indexed.{sum_to}
use Rattle.searches.proofs.Sums.{sum_to_same, sum_to_mono, sum_to_at}
use Rattle.searches.proofs.Leading.{only_most}
use Rattle.protocol.specs.Tasks.{priority}
use Rattle.protocol.specs.State.{is_asleep}
use Rattle.protocol.specs.Trace.{Open}
use Rattle.timing.specs.Statement.{count}
use Rattle.timing.proofs.Counts.{count_split, find, to_last, exchange}
use Rattle.timing.proofs.Executing.{runs_executes}
use Rattle.timing.proofs.Figures.{UseOf}
use Rattle.timing.proofs.Given.{Given, ev, during, runner, exec, task, value, view, holds}
use Rattle.timing.proofs.Window.{Window, low_at, low_tick, window_end}
use Rattle.timing.proofs.LowSections.{Meets, meets, part, part_most, same_section}

module _ {G : Given} {m i a r b : ℕ} (D : Window G m i a r b) where
  -- 1 in a low tick of the stretch x
  abbrev low_in : ℕ → ℕ → ℕ
  low_in x t = only (eqb (part D t) x) (low_tick G i t)

  -- the low ticks of the stretch x
  abbrev pub size : ℕ → ℕ
  size x = count (low_in x) b (value G i)

  -- such a tick meets a section
  met : (x t : ℕ) → 0 < low_in x t → (part D t ≡ x) × Meets G i t
  met x t h = go (eqb (part D t) x) refl h
    where
      go : (c : Bool) → eqb (part D t) x ≡ c → 0 < only c (low_tick G i t) → (part D t ≡ x) × Meets G i t
      go true e h = (eqb-true (part D t) x e, meets G i t h)
      go false e h = absurd (omega arith)

  -- one for a tick at most
  low_once : (x t : ℕ) → low_in x t ≤ 1
  low_once x t =
      omega (
        arith,
        only_most (eqb (part D t) x) (low_tick G i t),
        only_most (not (is_asleep ((during G t).entry i).status) && low_at G.table (during G t) i (runner G t)) 1,
      )

  -- each low tick is in a block
  pub in_blocks : count (low_tick G i) b (value G i) ≤ count size 0 (1 + (task G i).sleeps)
  in_blocks =
      omega (
        arith,
        sum_to_mono (λ z. low_tick G i (b + z)) (λ z. sum_to (λ x. low_in x (b + z)) (1 + (task G i).sleeps)) (value G i) (λ z l. in_one (b + z)),
        exchange low_in (1 + (task G i).sleeps) b (value G i),
        sum_to_same size (λ x. size (0 + x)) (1 + (task G i).sleeps) (λ x l. ap size (omega arith)),
      )
    where
      in_one : (t : ℕ) → low_tick G i t ≤ sum_to (λ x. low_in x t) (1 + (task G i).sleeps)
      in_one t =
          let e : low_in (part D t) t ≡ low_tick G i t = rw (eq-eqb (part D t) (part D t) refl) refl in
          omega (arith, e, sum_to_at (λ x. low_in x t) (1 + (task G i).sleeps) (part D t) (omega (arith, part_most D t)))

  -- The block x is of the use k: the section that it meets in a tick is one of k, and k is as long.
  pub record Block (x k : ℕ) : Type 0 where
    pub time : ℕ
    pub lo : b ≤ time
    pub hi : time < b + value G i
    pub is : part D time ≡ x
    pub meet : Meets G i time
    pub inside : k < G.shape.uses
    pub user : (view G).user k ≡ meet.q
    pub resource : ((view G).usage k).resource ≡ meet.r
    pub fits : size x ≤ ((view G).usage k).length

  -- From the tick t on, which is of the block x and meets the section y,
  module _ (x t : ℕ) (lo : b ≤ t) (e : part D t ≡ x) (y : Meets G i t) where
    -- each tick of the block meets that section,
    same : (n : ℕ) → t + n < b + value G i → part D (t + n) ≡ x → (w : Meets G i (t + n)) → (y.q ≡ w.q) × (y.r ≡ w.r) × (y.o ≡ w.o)
    same n l f w = same_section D t (t + n) lo (omega arith) (omega (arith, window_end D)) (e ∙ sym f) y w

    -- so that its task executes,
    executing : (n : ℕ) → t + n < b + value G i → low_in x (t + n) ≤ exec G y.q (t + n)
    executing n l = go (dec_lt 0 (low_in x (t + n)))
      where
        go : Dec (0 < low_in x (t + n)) → low_in x (t + n) ≤ exec G y.q (t + n)
        go (no z) = omega arith
        go (yes h) =
            let w = met x (t + n) h in
            let f : runner G (t + n) ≡ at y.q = w.1.runs ∙ ap at (sym (same n l w.0 w.1).0) in
            omega (arith, low_once x (t + n), runs_executes G.accepted G.calls G.clock y.q (t + n) f)

    -- and up to each of them they are no more than the length of a use of it
    up_to : (u : UseOf G.bytes G.shape y.q y.r) (n : ℕ) → t + n < b + value G i → 0 < low_in x (t + n)
        → count (low_in x) t (suc n) ≤ ((view G).usage u.index).length
    up_to u n l h =
        let w = met x (t + n) h in
        let s = same n l w.0 w.1 in
        let next : t + suc n ≡ suc (t + n) = omega arith in
        let still : Open (ev G) y.o (priority G.table y.q) y.r (G.clock.first (t + suc n)) =
        rw (s.0, s.1, s.2, next) w.1.opened in
        omega (
          arith,
          sum_to_mono (λ z. low_in x (t + z)) (λ z. exec G y.q (t + z)) (suc n) (λ z d. executing z (omega arith)),
          holds G u.index y.q y.r y.o t (suc n) u.inside u.user u.resource y.opened.made still,
        )

  -- so the whole block is, which begins in the tick c of the window
  short : (x c : ℕ) → c < value G i → count (low_in x) b c ≡ 0 → part D (b + c) ≡ x → (y : Meets G i (b + c))
      → (u : UseOf G.bytes G.shape y.q y.r) → size x ≤ ((view G).usage u.index).length
  short x c l z e y u =
      let left = value G i - c in
      let whole : c + left ≡ value G i = omega arith in
      omega (
        arith,
        z,
        ap (count (low_in x) b) whole,
        count_split (low_in x) b c left,
        to_last (low_in x) ((view G).usage u.index).length (b + c) left (λ n d. up_to x (b + c) (omega arith) e y u n (omega arith)),
      )

  -- each block is of a use, unless it is empty
  pub block : (x : ℕ) → (k : ℕ) × (0 < size x → Block x k)
  block x = go (find (low_in x) b (value G i))
    where
      go : (size x ≡ 0) ⊎ ((c : ℕ) × (c < value G i) × (0 < low_in x (b + c)) × (count (low_in x) b c ≡ 0)) → (k : ℕ) × (0 < size x → Block x k)
      go (inl z) = (0, λ h. absurd (omega arith))
      go (inr w) =
          let l : w.0 < value G i = w.1 in
          let e = met x (b + w.0) w.2 in
          let y = e.1 in
          let u = G.figures.use_of_lem y.q y.r y.inside y.uses in (
            u.index,
            λ h. record {
              time = b + w.0;
              lo = omega arith;
              hi = omega arith;
              is = e.0;
              meet = y;
              inside = u.inside;
              user = u.user;
              resource = u.resource;
              fits = short x w.0 l w.3 e.0 y u;
            },
          )
