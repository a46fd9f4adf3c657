-- Starting the running job doesn't alter which job runs, in any state whose settings are below their priorities.
use mathlib.Core.Path.{◌≡◌, refl, sym, ◌∙◌}
use mathlib.Core.Bool.{Bool, true, false, not, ◌&&◌, ◌||◌, or-true}
use Prim.Native.Nat.{ℕ, ◌≤◌, ◌<◌, max}
use native.Mathlib.Nat.{le_refl}
use native.Mathlib.Omega.{arith}
use lib.Dec.{ltb}
use borrow.Author.Tests.{lt-ltb, ltb-true}
use Rattle.protocol.specs.Tasks.{Table, priority, setting}
use Rattle.searches.specs.Searches.{Place, nowhere, at, largest, only}
use Rattle.protocol.specs.State.{Entry, State, holds, is_none, is_ready}
use Rattle.protocol.specs.Running.{system_priority, in_force, eligible, running}
use Rattle.protocol.specs.Acting.{put, begun, start}
use Rattle.searches.proofs.Testing.{and_true, true_and}
use Rattle.searches.proofs.Searching.{largest_reaches, largest_below}
use Rattle.searches.proofs.Leading.{Leads, leads_best, best_leads, only_most}
use Rattle.protocol.proofs.Entries.{put_each}

module _ (T : Table) (below : (i : ℕ) → i < T.size → setting T i < priority T i) (f : ℕ → Entry) (i : ℕ)
    (runs : running in_force T f ≡ at i) where
  -- the entries with the running job started
  abbrev next : ℕ → Entry
  next = put f i (begun (f i))

  -- what makes it the running job
  lead : Leads (eligible in_force T f) (priority T) T.size i
  unfolding running
  lead = best_leads (eligible in_force T f) (priority T) T.size i runs

  -- who is ready is the same
  ready_same : (k : ℕ) → is_ready (next k).status ≡ is_ready (f k).status
  ready_same k = put_each (λ e. is_ready e.status ≡ is_ready (f k).status) f i (begun (f i)) k (λ e. rw e) (λ ne. refl)

  -- and who holds
  holds_same : (k : ℕ) → holds (next k) ≡ holds (f k)
  holds_same k = put_each (λ e. holds e ≡ holds (f k)) f i (begun (f i)) k (λ e. rw e) (λ ne. refl)

  -- what an entry adds to the system priority
  abbrev counted : Entry → ℕ → ℕ
  counted e k = only (e.started && not (is_none e.status)) (setting T k)

  -- no less where its job is started
  counted_rises : (k : ℕ) → counted (f k) k ≤ counted (next k) k
  counted_rises k =
      put_each (λ e. counted (f k) k ≤ counted e k) f i (begun (f i)) k
      (λ e. rw e (more (f i).started (not (is_none (f i).status)))) (λ ne. omega arith)
    where
      more : (a b : Bool) → only (a && b) (setting T i) ≤ only b (setting T i)
      more true b = omega arith
      more false b = omega arith

  -- so the system priority doesn't fall
  system_rises : system_priority T f ≤ system_priority T next
  unfolding system_priority
  system_rises =
      largest_below (λ k. counted (f k) k) T.size (largest (λ k. counted (next k) k) T.size)
      (λ k lt. omega (arith, counted_rises k, largest_reaches (λ k. counted (next k) k) T.size k lt (le_refl (counted (next k) k))))

  -- and stays below the running job where it was so: that job's own setting is below its priority
  still_above : system_priority T f < priority T i → system_priority T next < priority T i
  unfolding system_priority
  still_above up =
      omega (
        arith,
        up,
        below i lead.within,
        largest_below (λ k. counted (next k) k) T.size (max (largest (λ k. counted (f k) k) T.size) (setting T i)) each,
      )
    where
      each : (k : ℕ) → k < T.size → counted (next k) k ≤ max (largest (λ k. counted (f k) k) T.size) (setting T i)
      each k lt =
          put_each (λ e. counted e k ≤ max (largest (λ k. counted (f k) k) T.size) (setting T i)) f i (begun (f i)) k
          (λ e. rw e (omega (arith, only_most (not (is_none (f i).status)) (setting T i))))
          (λ ne. omega (arith, largest_reaches (λ k. counted (f k) k) T.size k lt (le_refl (counted (f k) k))))

  -- who is eligible under the system priority y is so under x, where above y means above x
  passes_below : (x y p : ℕ) (h : Bool) → (y < p → x < p) → in_force y p h ≡ true → in_force x p h ≡ true
  passes_below x y p h less e = go (ltb y p) refl e
    where
      go : (b : Bool) → ltb y p ≡ b → b || h ≡ true → in_force x p h ≡ true
      go true t d = rw (lt-ltb x p (less (ltb-true y p t)))
      go false t d = rw d (or-true (ltb x p))

  -- who is eligible after was so before
  was_eligible : (k : ℕ) → eligible in_force T next k ≡ true → eligible in_force T f k ≡ true
  was_eligible k e =
      let w = and_true (is_ready (next k).status) (in_force (system_priority T next) (priority T k) (holds (next k))) e in
      true_and (sym (ready_same k) ∙ w.0)
      (passes_below (system_priority T f) (system_priority T next) (priority T k) (holds (f k)) (λ lt. omega (arith, system_rises))
      (rw (← holds_same k) w.1))

  -- the running job is eligible still
  still_eligible : eligible in_force T next i ≡ true
  still_eligible =
      let w = and_true (is_ready (f i).status) (in_force (system_priority T f) (priority T i) (holds (f i))) lead.passes in
      true_and (ready_same i ∙ w.0)
      (passes_below (system_priority T next) (system_priority T f) (priority T i) (holds (next i)) still_above
      (rw (holds_same i) w.1))

  -- so it runs still
  still_runs : running in_force T next ≡ at i
  unfolding running
  still_runs = leads_best (eligible in_force T next) (priority T) T.size i (record {
    within = lead.within;
    passes = still_eligible;
    most = λ j lt e. lead.most j lt (was_eligible j e);
    first = λ j lt e. lead.first j lt (was_eligible j e);
  })

-- the same job runs after it is started
pub running_settled : (T : Table) → ((i : ℕ) → i < T.size → setting T i < priority T i) → (s : State)
    → running in_force T (start (running in_force T s.entry) s).entry ≡ running in_force T s.entry
running_settled T below s = go (running in_force T s.entry) refl
  where
    go : (p : Place) → running in_force T s.entry ≡ p → running in_force T (start p s).entry ≡ p
    go nowhere e = e
    go (at i) e = still_runs T below s.entry i e
