-- Laws of turns and rounds in any system: the count never falls, no value rises, and a round that changes no value held the vector throughout.
use Rattle.std.specs.Prelude.{◌≡◌, refl, Bool, true, false, ℕ, ◌≤◌, ◌<◌, length}
use Rattle.std.proofs.Common.{sym, ◌∙◌, le_refl, le_trans, arith}
use Rattle.std.proofs.Math.Decide.{le_ind}
use Rattle.std.proofs.lemmas.Bool.{not-true, not-false}
use Rattle.rounds.proofs.LoweredLaws.{lowered_length, lowered_below}
use Rattle.rounds.specs.Rounds.{Progress, reply, turn, turns, round, changed}
use Rattle.rounds.proofs.SolverSteps.{solve_grows}
use Rattle.rounds.specs.System.{System, size, deadline}
use Rattle.rounds.specs.Vector.{◌⊑◌, same}
use Rattle.rounds.proofs.VectorLaws.{⊑_refl, ⊑_trans, ⊑-antisymm, same_true, same_false, same_refl, not_same}

-- ---- turns

-- A turn never lowers the count.
pub turn_grows : (S : System) (i : ℕ) (s : Progress) → s.evaluations ≤ (turn S i s).evaluations
unfolding turn
turn_grows S i s = solve_grows (S.side i s.vector) (deadline S i) (S.start i) s.evaluations

-- A turn raises no value.
pub turn_below : (S : System) (i : ℕ) (s : Progress) → (turn S i s).vector ⊑ s.vector
unfolding turn
turn_below S i s = lowered_below s.vector i (reply S i s.vector s.evaluations).answer

-- A turn keeps the number of values.
pub turn_length : (S : System) (i : ℕ) (s : Progress) → length (turn S i s).vector ≡ length s.vector
unfolding turn
turn_length S i s = lowered_length s.vector i (reply S i s.vector s.evaluations).answer

-- What holds after k turns of a round, and outlasts each turn, holds after m turns.
pub turns_keep : (S : System) (P : Progress → Type 0) (k m : ℕ) (s : Progress) → k ≤ m
    → ((i : ℕ) → i < m → (x : Progress) → P x → P (turn S i x)) → P (turns S k s) → P (turns S m s)
unfolding turns
turns_keep S P k m s h step p =
    le_ind (λ j. j ≤ m → P (turns S j s)) (λ l. p) (λ j q r l. step j l (turns S j s) (r (omega arith))) m h (le_refl m)

-- The count never falls from turn to turn.
pub turns_grow : (S : System) (k m : ℕ) (s : Progress) → k ≤ m → (turns S k s).evaluations ≤ (turns S m s).evaluations
turns_grow S k m s h =
    turns_keep S (λ x. (turns S k s).evaluations ≤ x.evaluations) k m s h
    (λ i l x p. le_trans p (turn_grows S i x)) (le_refl (turns S k s).evaluations)

-- No value rises from turn to turn.
pub turns_below : (S : System) (k m : ℕ) (s : Progress) → k ≤ m → (turns S m s).vector ⊑ (turns S k s).vector
turns_below S k m s h =
    turns_keep S (λ x. x.vector ⊑ (turns S k s).vector) k m s h
    (λ i l x p. ⊑_trans (turn S i x).vector x.vector (turns S k s).vector (turn_below S i x) p) (⊑_refl (turns S k s).vector)

-- The number of values stays.
pub turns_length : (S : System) (k : ℕ) (s : Progress) → length (turns S k s).vector ≡ length s.vector
unfolding turns
turns_length S k s =
    turns_keep S (λ x. length x.vector ≡ length s.vector) 0 k s (omega arith) (λ i l x p. turn_length S i x ∙ p) refl

-- A round that changes no value held the vector at every turn.
pub turns_held : (S : System) (k m : ℕ) (s : Progress) → k ≤ m → (turns S m s).vector ≡ s.vector → (turns S k s).vector ≡ s.vector
unfolding turns
turns_held S k m s h q =
    ⊑-antisymm (turns S k s).vector s.vector (turns_length S k s) (turns_below S 0 k s (omega arith)) (rw q at (turns_below S k m s h))

-- A round never lowers the count.
pub round_grows : (S : System) (s : Progress) → s.evaluations ≤ (round S s).evaluations
unfolding turns
round_grows S s = turns_grow S 0 (size S) s (omega arith)

-- ---- the test of a change

-- What tests as unchanged is the same vector.
pub changed_false : (s now : Progress) → changed s now ≡ false → now.vector ≡ s.vector
changed_false s now e = sym (same_true s.vector now.vector (not-false (same s.vector now.vector) e))

-- What tests as changed is another vector.
pub changed_true : (s now : Progress) → changed s now ≡ true → now.vector ≡ s.vector → ⊥
changed_true s now e q =
    same_false s.vector now.vector (not-true (same s.vector now.vector) e) (sym q)

-- The same vector tests as unchanged.
pub unchanged : (s now : Progress) → now.vector ≡ s.vector → changed s now ≡ false
unchanged s now q = rw (q, same_refl s.vector)

-- Another vector tests as changed.
pub differs : (s now : Progress) → (now.vector ≡ s.vector → ⊥) → changed s now ≡ true
differs s now ne = rw (not_same s.vector now.vector (λ q. ne (sym q)))

-- Whether the vector stays can be decided.
pub stays : (s now : Progress) → Dec (now.vector ≡ s.vector)
stays s now = go (changed s now) refl
  where
    go : (b : Bool) → changed s now ≡ b → Dec (now.vector ≡ s.vector)
    go true e = no (changed_true s now e)
    go false e = yes (changed_false s now e)
