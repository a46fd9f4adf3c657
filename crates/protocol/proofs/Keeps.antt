-- Release, resume, suspend and complete keep a state sound.
use mathlib.Core.Path.{◌≡◌, refl, sym, ap, ◌∙◌}
use mathlib.Core.Bool.{Bool, true, false}
use Prim.Native.Nat.{ℕ, ◌≤◌, ◌<◌}
use native.Mathlib.Omega.{arith}
use lib.Dec.{ltb}
use borrow.Author.Tests.{ltb-true, ltb-false}
use Rattle.searches.proofs.Testing.{impossible}
use Rattle.protocol.specs.Tasks.{Table, priority, setting}
use Rattle.protocol.specs.State.{Status, none, ready, asleep, Entry, Section, State}
use Rattle.protocol.specs.Running.{system_ceiling, Rule}
use Rattle.protocol.specs.Checks.{release, resume, suspend, complete}
use Rattle.protocol.specs.Acting.{put, become, slept, admitted_by, admitted, own, section, act}
use Rattle.protocol.specs.Accepted.{Accepted}
use Rattle.protocol.proofs.Entries.{put_each}
use Rattle.protocol.proofs.Chain.{In, low, high, chain_top}
use Rattle.protocol.proofs.Invariant.{Holder, Fits, Sound, Inv}
use Rattle.protocol.proofs.Runner.{Runs, runs}
use Rattle.protocol.proofs.Lows.{unheld}
use Rattle.protocol.proofs.Granted.{Granted}

-- ---- one entry changed

-- a new entry that fits, and holds what was held there, leaves the state sound
pub put_sound : {T : Table} {s : State} → Sound T s → (i : ℕ) (e : Entry) → Fits T s.sections i e
    → ((t : Section) → In t s.sections → t.place ≡ i → Holder T t e)
    → Sound T (record { entry = put s.entry i e; sections = s.sections })
put_sound {T} {s} S i e F H = record {
  each = λ k. put_each (Fits T s.sections k) s.entry i e k (λ q. rw q F) (λ ne. S.each k);
  holder = λ t o. put_each (Holder T t) s.entry i e t.place (H t o) (λ ne. S.holder t o);
  chain = S.chain;
  room = S.room;
}

module _ {T : Table} {s : State} (S : Sound T s) (i : ℕ) where
  -- a job that isn't ready has no section open
  idle_holder : (x : Status) → (s.entry i).status ≡ x → (ready ≡ x → ⊥) → (e : Entry) (t : Section) → In t s.sections → t.place ≡ i → Holder T t e
  idle_holder x is ne e t o p = absurd (ne (sym (S.holder t o).stands ∙ ap (λ k. (s.entry k).status) p ∙ is))

  -- nor has one that holds nothing
  pub free_holder : Accepted T → (s.entry i).held ≡ 0 → (e : Entry) (t : Section) → In t s.sections → t.place ≡ i → Holder T t e
  free_holder A z e t o p = absurd (unheld A S t o (ap (λ k. (s.entry k).held) p ∙ z))

-- ---- admission: by release, and by resume

-- An entry at the place i whose status the test against the system ceiling decides.
record Admitted (T : Table) (s : State) (i : ℕ) (e : Entry) : Type 0 where
  tested : e.status ≡ admitted T (system_ceiling T s) i
  inside : i < T.size
  mark : (e.held ≡ 0 → ⊥) → In (section i e.held) s.sections
  reach : e.started ≡ true → (t : Section) → In t s.sections → low T t ≤ setting T i → high T t < priority T i
  rested : 0 < e.sleeps → e.started ≡ true

-- it fits: the job waits, not above the system ceiling, or it is ready and above every ceiling
admitted_fits : {T : Table} {s : State} → Sound T s → (i : ℕ) (e : Entry) → Admitted T s i e → Fits T s.sections i e
admitted_fits {T} {s} S i e M = go (ltb (system_ceiling T s) (priority T i)) refl M.tested
  where
    go : (b : Bool) → ltb (system_ceiling T s) (priority T i) ≡ b → e.status ≡ admitted_by b → Fits T s.sections i e
    go true t is = record {
      inside = λ u. M.inside;
      mark = M.mark;
      waits = λ q. absurd (impossible (cc (is, q)));
      gap = λ q u o lt. omega (arith, ltb-true (system_ceiling T s) (priority T i) t, chain_top T 0 s.sections u S.chain o);
      reach = λ b u. M.reach b;
      dozed = λ q. absurd (impossible (cc (is, q)));
      rested = λ u. M.rested;
    }
    go false t is = record {
      inside = λ u. M.inside;
      mark = M.mark;
      waits = λ q. ltb-false (system_ceiling T s) (priority T i) t;
      gap = λ q. absurd (impossible (cc (is, q)));
      reach = λ b u. M.reach b;
      dozed = λ q. absurd (impossible (cc (is, q)));
      rested = λ u. M.rested;
    }

module _ {E : Rule} {T : Table} {s : State} (I : Inv E T s) where
  -- a release admits a job that isn't started
  pub release_sound : (p i : ℕ) → Granted E T s (release p) i → Sound T (act T s (release p) i)
  release_sound p i g =
      let e = own T (system_ceiling T s) s.entry (release p) i in
      put_sound I.sound i e
      (admitted_fits I.sound i e (record {
        tested = refl;
        inside = g.1;
        mark = (I.sound.each i).mark;
        reach = λ b. absurd (impossible cc);
        rested = λ lt. absurd (omega arith);
      }))
      (idle_holder I.sound i none g.2 (λ q. impossible cc) e)

  -- a resume admits a job that is started
  pub resume_sound : (p n i : ℕ) → Granted E T s (resume p n) i → Sound T (act T s (resume p n) i)
  resume_sound p n i g =
      let F = I.sound.each i in
      let e = own T (system_ceiling T s) s.entry (resume p n) i in
      put_sound I.sound i e
      (admitted_fits I.sound i e (record {
        tested = refl;
        inside = g.1;
        mark = F.mark;
        reach = λ b. F.reach b (λ z. impossible (cc g.2));
        rested = λ lt. F.dozed g.2;
      }))
      (idle_holder I.sound i asleep g.2 (λ q. impossible cc) e)

  -- ---- the end of a stretch of running

  -- a job that goes to sleep holds nothing and is started
  pub suspend_sound : Accepted T → (p n i : ℕ) → Granted E T s (suspend p n) i → Sound T (act T s (suspend p n) i)
  suspend_sound A p n i g =
      let S = I.sound in
      let F = S.each i in
      let R : Runs E T s i = runs g.0.runs in
      put_sound S i (slept (s.entry i))
      (record {
        inside = λ v. R.inside;
        mark = F.mark;
        waits = λ e. absurd (impossible cc);
        gap = λ e. absurd (impossible cc);
        reach = λ e v. F.reach e (λ z. impossible (cc R.stands));
        dozed = λ e. I.started i g.0.runs;
        rested = λ v lt. I.started i g.0.runs;
      })
      (free_holder S i A g.1 (slept (s.entry i)))

  -- one that ends holds nothing
  pub complete_sound : Accepted T → (p n i : ℕ) → Granted E T s (complete p n) i → Sound T (act T s (complete p n) i)
  complete_sound A p n i g =
      let S = I.sound in
      put_sound S i (become none (s.entry i))
      (record {
        inside = λ v. absurd (v refl);
        mark = (S.each i).mark;
        waits = λ e. absurd (impossible cc);
        gap = λ e. absurd (impossible cc);
        reach = λ e v. absurd (v refl);
        dozed = λ e. absurd (impossible cc);
        rested = λ v lt. absurd (v refl);
      })
      (free_holder S i A g.1 (become none (s.entry i)))
