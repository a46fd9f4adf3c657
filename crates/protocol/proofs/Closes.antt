-- An unlock keeps a state sound: it closes the last section.
use mathlib.Core.Path.{◌≡◌, refl, ap, subst}
use mathlib.Core.List.{List, [], ◌∷◌, ◌++◌}
use mathlib.Core.Logic.{⊎_elim}
use mathlib.Core.Bool.{true}
use Prim.Native.Nat.{ℕ}
use native.Mathlib.Omega.{arith}
use lib.ListN.{length, length-append}
use Rattle.searches.proofs.Testing.{impossible}
use Rattle.protocol.specs.Tasks.{Table, priority}
use Rattle.protocol.specs.State.{Entry, Section, State}
use Rattle.protocol.specs.Running.{top, Rule}
use Rattle.protocol.specs.Checks.{unlock}
use Rattle.protocol.specs.Acting.{put, freed, section, without, closed, act}
use Rattle.protocol.specs.Accepted.{Accepted, Lawful}
use Rattle.protocol.proofs.Entries.{put_each, woken_each}
use Rattle.protocol.proofs.Chain.{In, Chain, in_left, in_snoc, chain_init, chain_top, chain_within, chain_before, in_has, without_last}
use Rattle.protocol.proofs.Invariant.{Holder, Fits, Sound, Inv}
use Rattle.protocol.proofs.Runner.{runs}
use Rattle.protocol.proofs.Lows.{tops_holders}
use Rattle.protocol.proofs.Granted.{Granted}

module _ {E : Rule} (L : Lawful E) {T : Table} (A : Accepted T) {s : State} (I : Inv E T s) (p n r i : ℕ) (g : Granted E T s (unlock p n r) i) where
  -- the section is open
  pub unlock_in : In (section i r) s.sections
  unlock_in = subst (λ x. In (section i x) s.sections) g.1 ((I.sound.each i).mark g.2)

  -- and it was the last opened
  pub unlock_last : s.sections ≡ without (section i r) s.sections ++ (section i r ∷ [])
  unlock_last =
      without_last T 0 s.sections (section i r) I.sound.chain unlock_in (tops_holders L A I.sound (runs g.0.runs))

  -- the sections that are left
  abbrev left : List Section
  left = without (section i r) s.sections

  -- the entries before any is woken
  abbrev unmarked : ℕ → Entry
  unmarked = put s.entry i (freed (s.entry i))

  -- what is left was open
  fewer : (t : Section) → In t left → In t s.sections
  fewer t o = rw unlock_last (in_left t left (section i r ∷ []) o)

  -- the sections of other jobs are left
  others_left : (k q : ℕ) → (k ≡ i → ⊥) → In (section k q) s.sections → In (section k q) left
  others_left k q ne o =
      ⊎_elim (λ h. h) (λ e. absurd (ne (ap (λ t. t.place) e)))
      (in_snoc (section k q) (section i r) left (subst (In (section k q)) unlock_last o))

  -- before any is woken, the entries fit as they did
  kept_fits : (k : ℕ) → Fits T s.sections k (unmarked k)
  kept_fits k =
      let F = I.sound.each k in
      put_each (Fits T s.sections k) s.entry i (freed (s.entry i)) k
      (λ e. subst (λ x. Fits T s.sections k (freed (s.entry x))) e (record {
        inside = F.inside;
        mark = λ ne. absurd (ne refl);
        waits = F.waits;
        gap = F.gap;
        reach = F.reach;
        dozed = F.dozed;
        rested = F.rested;
      }))
      (λ ne. F)

  -- and their marks have sections still
  kept_mark : (k : ℕ) → ((unmarked k).held ≡ 0 → ⊥) → In (section k (unmarked k).held) left
  kept_mark k =
      put_each (λ x. (x.held ≡ 0 → ⊥) → In (section k x.held) left) s.entry i (freed (s.entry i)) k
      (λ e ne. absurd (ne refl))
      (λ d ne. others_left k (s.entry k).held d ((I.sound.each k).mark ne))

  -- a woken job is above every ceiling that is left
  closed_sound : Sound T (closed true T (section i r) (record { entry = unmarked; sections = s.sections }))
  closed_sound =
      let C : Chain T 0 (left ++ (section i r ∷ [])) = subst (Chain T 0) unlock_last I.sound.chain in
      let D : Chain T 0 left = chain_init T 0 left (section i r) C in
      record {
        each = λ k.
            let F = kept_fits k in
            woken_each (Fits T left k) T (top T 0 left) unmarked k
            (λ lt w up. record {
              inside = λ u. lt;
              mark = kept_mark k;
              waits = λ e. absurd (impossible cc);
              gap = λ e t o below. omega (arith, up, chain_top T 0 left t D o);
              reach = λ e u t o. F.reach e (λ z. impossible (cc w)) t (fewer t o);
              dozed = λ e. absurd (impossible cc);
              rested = λ u. F.rested (λ z. impossible (cc w));
            })
            (λ stay. record {
              inside = F.inside;
              mark = kept_mark k;
              waits = λ e. stay (F.inside (λ z. impossible (cc e))) e;
              gap = λ e t o. F.gap e t (fewer t o);
              reach = λ e u t o. F.reach e u t (fewer t o);
              dozed = F.dozed;
              rested = F.rested;
            });
        holder = λ t o.
            let H = I.sound.holder t (fewer t o) in
            let other : t.place ≡ i → ⊥ = λ e.
            omega (arith, chain_before T 0 left (section i r) t C o, chain_within T 0 left t D o, ap (priority T) e) in
            let K : Holder T t (unmarked t.place) =
            put_each (Holder T t) s.entry i (freed (s.entry i)) t.place (λ e. absurd (other e)) (λ d. H) in
            woken_each (Holder T t) T (top T 0 left) unmarked t.place
            (λ lt w up. absurd (let z = K.stands in impossible (cc w)))
            (λ stay. K);
        chain = D;
        room = omega (arith, I.sound.room, length-append left (section i r ∷ []), ap length unlock_last);
      }

  -- an unlock finds its section open, so this is what it does
  pub unlock_sound : Sound T (act T s (unlock p n r) i)
  unlock_sound = rw (in_has (section i r) s.sections unlock_in) closed_sound
