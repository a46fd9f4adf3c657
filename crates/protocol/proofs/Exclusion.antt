-- No resource has two holders, and a permitted lock never meets a held resource.
use mathlib.Core.Path.{◌≡◌, sym, ap, subst, ◌∙◌}
use Prim.Native.Nat.{ℕ, ◌<◌}
use native.Mathlib.Omega.{arith}
use native.Mathlib.Decide.{dec_lt}
use Rattle.protocol.specs.Tasks.{Table}
use Rattle.protocol.specs.State.{Section, State}
use Rattle.protocol.specs.Running.{ceiling, Rule}
use Rattle.protocol.specs.Acting.{section}
use Rattle.protocol.specs.Trace.{Event, opened, Open}
use Rattle.protocol.proofs.Chain.{In, low}
use Rattle.protocol.proofs.Runner.{user_below, Runs, runs}
use Rattle.protocol.proofs.Lows.{holder_inside, unheld, one_section, free_high}
use Rattle.protocol.proofs.Runs.{Run, inv}
use Rattle.protocol.proofs.Sections.{was_open, opened_in, opening}

module _ {E : Rule} {T : ℕ → Table} {S : ℕ → State} {ev : ℕ → Event} (G : Run E T S ev) where
  -- a job opens no section of a resource while it has one open
  never_twice : {o u p r k : ℕ} → Open ev o p r k → Open ev u p r k → o < u → ⊥
  never_twice {o} {u} {p} {r} {k} v w lt =
      let I = (inv G u).sound in
      let g = opening G u p r w.began in
      let R : Runs E (T u) (S u) g.by = runs g.runs in
      let t = opened_in G u (was_open {j = u} v lt (omega (arith, w.made))) in
      let q : t.0.place ≡ g.by =
      (G.accepted u).unique t.0.place g.by (holder_inside (G.accepted u) I t.0 t.1) R.inside (t.2 ∙ sym g.names) in
      unheld (G.accepted u) I t.0 t.1 (ap (λ x. ((S u).entry x).held) q ∙ g.free)

  -- so one open section is named once
  pub open_once : {o u p r k : ℕ} → Open ev o p r k → Open ev u p r k → o ≡ u
  open_once {o} {u} v w = go (dec_lt o u) (dec_lt u o)
    where
      go : Dec (o < u) → Dec (u < o) → o ≡ u
      go (yes lt) d = absurd (never_twice v w lt)
      go (no ge) (yes lt) = absurd (never_twice w v lt)
      go (no ge) (no le) = omega arith

  -- a resource is in one open section
  pub one_section_open : (k r o u p q : ℕ) → Open ev o p r k → Open ev u q r k → o ≡ u
  one_section_open k r o u p q v w =
      let t = opened_in G k v in
      let x = opened_in G k w in
      let e : t.0 ≡ x.0 = one_section (G.accepted k) (inv G k).sound t.0 x.0 t.1 x.1 (t.3 ∙ sym x.3) in
      let f : p ≡ q = sym t.2 ∙ ap (low (T k)) e ∙ x.2 in
      open_once (subst (λ y. Open ev o y r k) f v) w

  -- what a lock opens is in no section of the state: the caller is above every ceiling
  none_open : (k p r : ℕ) → ev k ≡ opened p r → (t : Section) → In t (S k).sections → t.resource ≡ r → ⊥
  none_open k p r e t i q =
      let g = opening G k p r e in
      let R : Runs E (T k) (S k) g.by = runs g.runs in
      omega (
        arith,
        free_high G.lawful (G.accepted k) (inv G k).sound R g.free t i,
        user_below (T k) g.by r R.inside g.uses,
        ap (ceiling (T k)) q,
      )

  -- a permitted lock finds its resource in no open section
  pub finds_free : (k p r o q : ℕ) → ev k ≡ opened p r → Open ev o q r k → ⊥
  finds_free k p r o q e w = let t = opened_in G k w in none_open k p r e t.0 t.1 t.3

  -- and held by nobody
  pub finds_unheld : (k p r i : ℕ) → ev k ≡ opened p r → ((S k).entry i).held ≡ r → ⊥
  finds_unheld k p r i e h =
      let g = opening G k p r e in
      none_open k p r e (section i ((S k).entry i).held)
      (((inv G k).sound.each i).mark
      (λ z. omega (arith, g.uses, (G.accepted k).proper g.by, ap ((T k).task g.by).uses (sym h ∙ z)))) h
