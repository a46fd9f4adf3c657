-- The text of an accepted table packs back to the table's bytes.
use Prim.Native.Nat.{ℕ, zero, suc, ◌+◌, ◌*◌, ◌≤◌, ◌<◌}
use mathlib.Core.Path.{◌≡◌, refl, sym, ap, subst, ◌∙◌}
use mathlib.Core.Bool.{Bool, cond}
use mathlib.Core.List.{List, [], ◌∷◌, ◌++◌, append_assoc}
use mathlib.Core.Logic.{inl, inr}
use native.Mathlib.Omega.{arith}
use lib.ListN.{length, get_or, take, drop, length-drop, take-append-drop, drop_of_length-le}
use lib.Seq.{drop-cons, length-take-le, take-add}
use borrow.Author.Tests.{le-ltb}
use Rattle.table.specs.declared.Shape.{Shape}
use Rattle.table.specs.Reading.{Reading}
use Rattle.std.specs.Prelude.{Ok}
use Rattle.table.specs.Fields.{task_at}
use Rattle.table.specs.Reading.{read_table}
use Rattle.table.specs.WellFormed.{use_of, user_of, TaskInRange, WellFormed}
use Rattle.table.proofs.Laws.{place_has}
use Rattle.table.proofs.Accepted.{well_formed}
use Rattle.table.proofs.Prefixes.{prefix_accepted}
use Rattle.words.specs.Text.{joined}
use Rattle.words.specs.Finding.{in_class, lead}
use Rattle.notation.specs.Packing.{longest, whole, packed, pack_from, start, pack_text}
use Rattle.notation.specs.Showing.{heading, row_text, rows_text, table_text, shown_by, shown}
use Rattle.notation.proofs.RowTrips.{task_again, use_again}
use Rattle.notation.proofs.Sizes.{task_some, use_some, text_most}
use Rattle.notation.proofs.Onward.{Ends, ends_last, ends_row, ends_blank}

-- the bytes of the first k tasks and j uses
abbrev front : List ℕ → ℕ → ℕ → List ℕ
front s k j = take (20 * k + 8 * j) s

-- the line of task k
abbrev task_row : List ℕ → ℕ → List ℕ
task_row s k = row_text s 0 7 (0 + 20 * k)

-- the line of use j, where the uses start at a place
abbrev use_row : List ℕ → ℕ → ℕ → List ℕ
use_row s from j = row_text s 7 4 (from + 8 * j)

-- a part that starts where a front ends makes it longer
part_after : (s : List ℕ) (at i size end : ℕ) → at ≡ i → i + size ≡ end → take at s ++ take size (drop i s) ≡ take end s
part_after s at i size end p q = ap (λ (x : ℕ). take x s ++ take size (drop i s)) p ∙ sym (take-add i size s) ∙ ap (λ (x : ℕ). take x s) q

-- a part within the bytes is as long as it should be
part_some : (s : List ℕ) (i size : ℕ) → 1 ≤ size → i + size ≤ length s → 1 ≤ length (take size (drop i s))
part_some s i size some room = omega (arith, length-take-le size (drop i s) (omega (arith, length-drop i s)))

module _ (s : List ℕ) (h : Shape) (f : WellFormed s h) where
  -- all the records and an end are the whole table
  whole_again : front s h.tasks h.uses ++ 3 ∷ [] ≡ s
  whole_again =
      let n = 20 * h.tasks + 8 * h.uses in
      let here : h.uses_at + 8 * h.uses ≡ n = omega (arith, f.start) in
      let kind : get_or s n 0 ≡ 3 = ap (λ (a : ℕ). get_or s a 0) (sym here) ∙ f.end_kind in
      let end : drop n s ≡ 3 ∷ [] =
      drop-cons s n 0 (omega (arith, f.whole)) ∙ ap (λ (x : ℕ). x ∷ drop (suc n) s) kind
      ∙ ap (λ (l : List ℕ). 3 ∷ l) (drop_of_length-le s {i = suc n} (omega (arith, f.whole))) in
      ap (λ (l : List ℕ). take n s ++ l) (sym end) ∙ take-append-drop n s

  -- a use's priority is that of a task
  use_priority : (j : ℕ) → j < h.uses → (1 ≤ (use_of s h.uses_at j).priority) × ((use_of s h.uses_at j).priority ≤ 255)
  use_priority j l =
      let i = user_of s h.tasks h.uses_at j in
      let own = f.owned j l in
      let has = place_has h.tasks s 0 (use_of s h.uses_at j).priority (omega arith) in
      (omega (arith, (f.task_range i own).priority), omega (arith, f.priority_most i own))

-- the heading is two lines without words
heading_end : (t s rest : List ℕ) → Ends t s [] rest → Ends t s [] (heading ++ rest)
unfolding lead
heading_end t s rest f =
    ends_blank t s [] (heading ++ rest) refl refl (omega arith)
    (ends_blank t s [] (drop (lead (in_class 2) (heading ++ rest) + 1) (heading ++ rest)) refl refl (omega arith) f)

module _ (s : List ℕ) (bytes : (i : ℕ) → get_or s i 0 < 256) (h : Shape) (e : read_table s ≡ Ok h) (t : List ℕ) where
  -- from the line of use j on
  uses_end : (c j : ℕ) → j + c ≡ h.uses → Ends t s (front s h.tasks j) (joined (use_row s h.uses_at) c j)
  unfolding joined
  uses_end zero j q =
      let f = well_formed s h e in
      ends_last t s (front s h.tasks j) h (ap (λ (x : ℕ). front s h.tasks x ++ 3 ∷ []) (omega arith) ∙ whole_again s h f) e
  uses_end (suc c) j q =
      let f = well_formed s h e in
      let i = h.uses_at + 8 * j in
      let l : j < h.uses = omega arith in
      let room : i + 8 ≤ length s = omega (arith, f.whole) in
      let p = use_priority s h f j l in
      ends_row t s (front s h.tasks j) (take 8 (drop i s)) (front s h.tasks (j + 1)) (use_row s h.uses_at j)
      (joined (use_row s h.uses_at) c (j + 1)) (record { tasks = h.tasks; uses_at = 20 * h.tasks; uses = j + 1 })
      (λ at d. use_again s bytes t (joined (use_row s h.uses_at) c (j + 1)) at i (f.use_range j l) p.0 p.1 (f.use_kind j l) room d)
      (use_some s i) (part_some s i 8 (omega arith) room)
      (part_after s (20 * h.tasks + 8 * j) i 8 (20 * h.tasks + 8 * (j + 1)) (omega (arith, f.start)) (omega (arith, f.start)))
      (prefix_accepted s h e h.tasks (j + 1) f.some (omega arith) (omega arith) (inr refl))
      (uses_end c (j + 1) (omega arith))

  -- from the line of task k on
  tasks_end : (c k : ℕ) → k + c ≡ h.tasks
      → Ends t s (front s k 0) (joined (task_row s) c k ++ joined (use_row s h.uses_at) h.uses 0)
  unfolding joined
  tasks_end zero k q =
      let all : h.tasks ≡ k = omega arith in
      subst (λ x. Ends t s (front s x 0) (joined (use_row s h.uses_at) h.uses 0)) all (uses_end h.uses 0 (omega arith))
  tasks_end (suc c) k q =
      let f = well_formed s h e in
      let i = 0 + 20 * k in
      let rest = joined (task_row s) c (k + 1) ++ joined (use_row s h.uses_at) h.uses 0 in
      let l : k < h.tasks = omega arith in
      let here : 20 * k ≡ i = omega arith in
      let room : i + 20 ≤ length s = omega (arith, f.whole, f.start) in
      subst (Ends t s (front s k 0)) (sym (append_assoc (task_row s k) (joined (task_row s) c (k + 1)) (joined (use_row s h.uses_at) h.uses 0)))
      (ends_row t s (front s k 0) (take 20 (drop i s)) (front s (k + 1) 0) (task_row s k) rest
      (record { tasks = k + 1; uses_at = 20 * (k + 1); uses = 0 })
      (λ at d. task_again s bytes t rest at i
      (subst (λ x. TaskInRange (task_at s x)) here (f.task_range k l))
      (subst (λ x. (task_at s x).priority ≤ 255) here (f.priority_most k l))
      (subst (λ x. get_or s x 0 ≡ 1) here (f.task_kind k l)) room d)
      (task_some s i) (part_some s i 20 (omega arith) room)
      (part_after s (20 * k + 8 * 0) i 20 (20 * (k + 1) + 8 * 0) (omega arith) (omega arith))
      (prefix_accepted s h e (k + 1) 0 (omega arith) (omega arith) (omega arith) (inl refl))
      (tasks_end c (k + 1) (omega arith)))

-- the text of an accepted table packs back to the table's bytes
pub packed_again : (s : List ℕ) → ((i : ℕ) → get_or s i 0 < 256) → (h : Shape) → read_table s ≡ Ok h → pack_text (shown s) ≡ packed s
unfolding pack_text rows_text shown
packed_again s bytes h e =
    let f = well_formed s h e in
    let t = table_text s h.tasks h.uses_at h.uses in
    let rows = joined (task_row s) h.tasks 0 ++ joined (use_row s h.uses_at) h.uses 0 in
    let small = text_most s h.tasks h.uses_at h.uses f.tasks_most f.uses_most in
    ap (λ (r : Reading). pack_text (shown_by r s)) e
    ∙ ap (λ (b : Bool). cond b (whole 1 18) (pack_from (length t + 1) t start [])) (le-ltb longest (length t) small)
    ∙ heading_end t s rows (tasks_end s bytes h e t h.tasks 0 (omega arith)) (length t + 1) start refl (omega arith)
