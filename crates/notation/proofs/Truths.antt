-- The cause that a refused record is given tells the truth about it.
use Prim.Native.Nat.{ℕ, zero, suc, ◌+◌, ◌*◌, ◌≤◌, ◌<◌}
use mathlib.Core.Path.{◌≡◌, refl, sym, ap, subst, ◌∙◌}
use mathlib.Core.Logic.{◌⊎◌, inl, inr, ⊎_elim}
use mathlib.Core.List.{List, [], ◌∷◌, ◌++◌}
use native.Mathlib.Omega.{arith}
use lib.ListN.{length, get_or, length-append, get_or-append}
use lib.Seq.{get_or_at}
use Rattle.searches.proofs.Testing.{impossible}
use Rattle.table.specs.declared.Refusal.{Refusal}
use Rattle.std.specs.Prelude.{Result, Ok, Err}
use Rattle.table.specs.declared.walk.Walk.{Walk}
use Rattle.table.specs.declared.walk.Step.{Step}
use Rattle.table.specs.Fields.{word_at, task_at, use_at}
use Rattle.table.specs.Replies.{why_number}
use Rattle.table.specs.Rules.{Ruling, stands, task_rule, use_rule, with_task, with_use}
use Rattle.table.specs.Reading.{ruled, going, step_at, user_at, onward, read_from, read_table}
use Rattle.table.proofs.Complete.{end_step_lem}
use Rattle.notation.specs.declared.stepping.Position.{Position}
use Rattle.notation.specs.Reasons.{reason_at}
use Rattle.notation.specs.Rows.{row_at}
use Rattle.notation.specs.Truths.{Told, Standing, SoFar}
use Rattle.table.proofs.Agreeing.{task_same}
use Rattle.table.proofs.Told.{use_stands}
use Rattle.table.proofs.Walked.{task_turn, use_turn_lem}
use Rattle.notation.proofs.Reached.{Going, Reached, reached, reached_start, user_few, use_rule_same, going_on}
use Rattle.notation.proofs.Wholes.{TaskWhole, UseWhole, row_whole}
use Rattle.notation.proofs.Telling.{task_true, use_true}

-- ---- the rule that refuses

-- a table that ends here is accepted
ended_here : (s : List ℕ) (w : Walk) → Going s w → get_or s w.at 0 ≡ 3 → length s ≡ w.at + 1 → 1 ≤ w.tasks → (r : Refusal) → read_table s ≡ Err r → ⊥
unfolding read_from
ended_here s w g k l some r e = go g.fuel g.enough g.same
  where
    go : (k : ℕ) → length s < w.at + k → read_from k s w ≡ read_table s → ⊥
    go zero h q = omega arith
    go (suc n) h q =
        let z = ap (λ (t : Result Step Refusal). onward t (read_from n s)) (sym (end_step_lem s w k l some)) ∙ q ∙ e in
        impossible cc

-- where a record is refused that would be the last, its rule says why
refused_by_lem : (s : List ℕ) (w next : Walk) (k : Ruling) → Going s w → w.at < next.at → step_at s w ≡ going (ruled k w.at next)
    → get_or s next.at 0 ≡ 3 → length s ≡ next.at + 1 → (k ≡ stands → 1 ≤ next.tasks) → (r : Refusal) → read_table s ≡ Err r → k ≡ Err r.why
unfolding read_from
refused_by_lem s w next (Ok x) g on st e l some r refused = absurd (ended_here s next (going_on s w next (omega arith) on st g) e l (some refl) r refused)
refused_by_lem s w next (Err y) g on st e l some r refused = go g.fuel g.enough g.same
  where
    go : (f : ℕ) → length s < w.at + f → read_from f s w ≡ read_table s → ◌≡◌ {A = Ruling} (Err y) (Err r.why)
    go zero h q = absurd (omega arith)
    go (suc f) h q = let z = ap (λ (t : Result Step Refusal). onward t (read_from f s)) (sym st) ∙ q ∙ refused in cc

-- ---- the record behind the records so far

module _ (records bytes : List ℕ) (n : ℕ) (g : Reached records bytes n) (r : Refusal) (e : read_table ((records ++ bytes) ++ 3 ∷ []) ≡ Err r) where
  -- all the records
  abbrev all : List ℕ
  all = records ++ bytes

  -- with an end after them
  abbrev ended : List ℕ
  ended = (records ++ bytes) ++ 3 ∷ []

  -- a byte of the records is the same before an end
  same_byte : (i : ℕ) → i < length all → get_or ended i 0 ≡ get_or all i 0
  same_byte i h = get_or-append all (3 ∷ []) 0 i h

  -- what is told at the walk's place is told at the end of the records
  moved : Told all g.walk.at g.walk.tasks (reason_at all g.walk.at g.walk.tasks (why_number r.why))
      → Told all (length records) n (reason_at all (length records) n (why_number r.why))
  moved t =
      subst (λ (x : ℕ). Told all (length records) x (reason_at all (length records) x (why_number r.why))) g.tasks
      (subst (λ (a : ℕ). Told all a g.walk.tasks (reason_at all a g.walk.tasks (why_number r.why))) g.at t)

  -- a task
  task_told : TaskWhole all g.walk.at → Told all (length records) n (reason_at all (length records) n (why_number r.why))
  task_told whole =
      let w = g.walk in
      let size = whole.size in
      let more = length-append all (3 ∷ []) in
      let end : get_or ended (w.at + 20) 0 ≡ 3 = get_or_at all 3 [] 0 (w.at + 20) size in
      let step = task_turn ended w (same_byte w.at (omega arith) ∙ whole.kind) (omega arith) in
      let by = refused_by_lem ended w (with_task w (task_at ended w.at)) (task_rule w (task_at ended w.at)) g.going (omega arith) step end (omega arith) (λ z. omega arith) r e in
      let is = ap (task_rule w) (task_same all ended (length all) same_byte w.at (omega arith)) in
      moved (task_true all w g.seen g.marks whole r.why (sym is ∙ by))

  -- a use
  use_told : UseWhole all g.walk.at → Told all (length records) n (reason_at all (length records) n (why_number r.why))
  use_told whole =
      let w = g.walk in
      let size = whole.size in
      let more = length-append all (3 ∷ []) in
      let u = use_at ended w.at in
      let i = user_at ended w in
      let c = word_at ended (20 * user_at ended w + 4) in
      let end : get_or ended (w.at + 8) 0 ≡ 3 = get_or_at all 3 [] 0 (w.at + 8) size in
      let step = use_turn_lem ended w (same_byte w.at (omega arith) ∙ whole.kind) (omega arith) in
      let some : use_rule w u i c ≡ stands → 1 ≤ w.tasks = λ z. let l = (use_stands w u i c z).owned in omega arith in
      let by = refused_by_lem ended w (with_use w u i) (use_rule w u i c) g.going (omega arith) step end (omega arith) some r e in
      let few = user_few all w g.seen g.marks in
      let is = use_rule_same all ended (length all) same_byte w (omega arith) (omega (arith, g.seen.place)) few in
      moved (use_true all w g.seen g.marks whole.kind whole r.why (sym is ∙ by))

-- the reason that is found for a record behind the records so far, which the reader refuses with them, is true of it
pub told : (s : List ℕ) (w : Position) (records : List ℕ) → SoFar w records → (row_at s w.at).cause ≡ 0 → 1 ≤ length (row_at s w.at).bytes
    → (r : Refusal) → read_table ((records ++ (row_at s w.at).bytes) ++ 3 ∷ []) ≡ Err r
    → Told (records ++ (row_at s w.at).bytes) w.count w.tasks (reason_at (records ++ (row_at s w.at).bytes) w.count w.tasks (why_number r.why))
told s w records f e some r refused =
    rw f.count (go (⊎_elim first later f.stand) (row_whole records s w.at e some))
  where
    first : (records ≡ []) × (w.tasks ≡ 0) → Reached records (row_at s w.at).bytes w.tasks
    first q = rw (q.0, q.1) (reached_start (row_at s w.at).bytes)

    later : Standing records w.tasks → Reached records (row_at s w.at).bytes w.tasks
    later q = rw q.tasks (reached records (row_at s w.at).bytes q.shape q.accepted)

    go : Reached records (row_at s w.at).bytes w.tasks
        → TaskWhole (records ++ (row_at s w.at).bytes) (length records) ⊎ UseWhole (records ++ (row_at s w.at).bytes) (length records)
        → Told (records ++ (row_at s w.at).bytes) (length records) w.tasks (reason_at (records ++ (row_at s w.at).bytes) (length records) w.tasks (why_number r.why))
    go g (inl t) = task_told records _ w.tasks g r refused (subst (TaskWhole (records ++ (row_at s w.at).bytes)) (sym g.at) t)
    go g (inr u) = use_told records _ w.tasks g r refused (subst (UseWhole (records ++ (row_at s w.at).bytes)) (sym g.at) u)
