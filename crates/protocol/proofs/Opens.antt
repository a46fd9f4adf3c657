-- A lock keeps a state sound.
use mathlib.Core.Path.{◌≡◌, refl, subst}
use mathlib.Core.List.{[], ◌∷◌, ◌++◌}
use mathlib.Core.Logic.{⊎_elim}
use mathlib.Core.Bool.{true}
use Prim.Native.Nat.{ℕ, ◌≤◌, ◌<◌}
use native.Mathlib.Omega.{arith}
use lib.ListN.{length-append}
use Rattle.protocol.specs.Tasks.{Table, priority, setting}
use Rattle.protocol.specs.State.{ready, State, holds}
use Rattle.protocol.specs.Running.{ceiling, system_priority, Rule}
use Rattle.protocol.specs.Checks.{lock}
use Rattle.protocol.specs.Acting.{locked, section, act}
use Rattle.protocol.specs.Accepted.{Accepted, Lawful}
use Rattle.protocol.proofs.Entries.{put_each}
use Rattle.protocol.proofs.Chain.{low, in_left, in_last, in_snoc, top_snoc, chain_snoc}
use Rattle.protocol.proofs.Invariant.{Unfinished, Holder, Fits, Sound, Inv}
use Rattle.protocol.proofs.Runner.{user_below, setting_below_lem, Runs, runs}
use Rattle.protocol.proofs.Lows.{ready_inside, free_above, free_top}
use Rattle.protocol.proofs.Granted.{Granted}
use Rattle.protocol.proofs.Keeps.{free_holder}

module _ {E : Rule} (L : Lawful E) {T : Table} (A : Accepted T) {s : State} (I : Inv E T s) (p n r i : ℕ) (g : Granted E T s (lock p n r) i) where
  -- the caller runs
  caller : Runs E T s i
  caller = runs g.0.runs

  -- and is not above the ceiling of what it locks
  caller_below : priority T i ≤ ceiling T r
  caller_below = user_below T i r caller.inside g.2

  -- no ready job is above the caller: where it is above the system priority it would run
  none_ready_above : (k : ℕ) → (s.entry k).status ≡ ready → priority T i < priority T k → ⊥
  none_ready_above k e lt =
      omega (
        arith,
        caller.tops k (ready_inside A I.sound k e) e
            (L.above (system_priority T s.entry) (priority T k) (holds (s.entry k)) (omega (arith, free_above L A I.sound caller g.1))),
      )

  -- no started job's setting reaches the caller
  none_reaches : (k : ℕ) → (s.entry k).started ≡ true → Unfinished (s.entry k) → priority T i ≤ setting T k → ⊥
  none_reaches k e u le =
      omega (arith, setting_below_lem T s.entry k ((I.sound.each k).inside u) e u, free_above L A I.sound caller g.1)

  -- the entries that there were fit the longer list
  still_fits : (k : ℕ) → Fits T (s.sections ++ (section i r ∷ [])) k (s.entry k)
  still_fits k =
      let F = I.sound.each k in
      record {
        inside = F.inside;
        mark = λ ne. in_left (section k (s.entry k).held) s.sections (section i r ∷ []) (F.mark ne);
        waits = λ e.
            omega (arith, F.waits e, free_top L A I.sound caller g.1, caller_below, top_snoc T 0 s.sections (section i r));
        gap = λ e t o lt. ⊎_elim
            (λ h. F.gap e t h lt)
            (λ q. absurd (none_ready_above k e (subst (λ x. low T x < priority T k) q lt))) (in_snoc t (section i r) s.sections o);
        reach = λ e u t o le. ⊎_elim
            (λ h. F.reach e u t h le)
            (λ q. absurd (none_reaches k e u (subst (λ x. low T x ≤ setting T k) q le))) (in_snoc t (section i r) s.sections o);
        dozed = F.dozed;
        rested = F.rested;
      }

  -- the caller, with its mark, fits too, and its section stands last in the chain
  pub lock_sound : Sound T (act T s (lock p n r) i)
  lock_sound =
      let S = I.sound in
      let e = locked r (s.entry i) in
      let F = still_fits i in
      record {
        each = λ k. put_each (Fits T (s.sections ++ (section i r ∷ [])) k) s.entry i e k
            (λ q. rw q (record {
              inside = F.inside;
              mark = λ ne. in_last (section i r) s.sections;
              waits = F.waits;
              gap = F.gap;
              reach = F.reach;
              dozed = F.dozed;
              rested = F.rested;
            }))
            (λ ne. still_fits k);
        holder = λ t o. ⊎_elim
            (λ h. put_each (Holder T t) s.entry i e t.place (free_holder S i A g.1 e t h) (λ ne. S.holder t h))
            (λ q. rw q (put_each (Holder T (section i r)) s.entry i e i
            (λ z. record { stands = caller.stands; started = I.started i g.0.runs; held = refl; uses = g.2 }) (λ ne. absurd (ne refl))))
            (in_snoc t (section i r) s.sections o);
        chain = chain_snoc T 0 s.sections (section i r) S.chain (free_top L A S caller g.1) caller_below;
        room = omega (arith, g.3, length-append s.sections (section i r ∷ []));
      }
