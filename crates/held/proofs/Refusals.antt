-- Which tables the writer refuses, with which number and where: 3 to 6 at the start of a record, then 10; a count above its limit always.
use Prim.Native.Nat.{ℕ, ◌+◌, ◌*◌, ◌<◌, ◌≤◌, min}
use mathlib.Core.Path.{◌≡◌, refl, sym, ap, subst, ◌∙◌}
use mathlib.Core.Logic.{◌⊎◌, inl, inr}
use mathlib.Core.Bool.{Bool, true, false, cond}
use mathlib.Core.List.{List, [], ◌∷◌, ◌++◌, append-nil}
use native.Mathlib.Omega.{arith}
use native.Mathlib.Nat.{min-eq_left, min-eq_right}
use lib.Dec.{ltb}
use lib.ListN.{length, get_or, length-append}
use lib.Seq.{get_or-append_seam}
use borrow.Author.Tests.{lt-ltb, le-ltb}
use Rattle.searches.specs.Indexed.{every}
use Rattle.searches.proofs.Testing.{impossible}
use Rattle.searches.proofs.Indexed.{length_every}
use Rattle.table.specs.declared.Refusal.{Refusal}
use Rattle.table.specs.declared.Why.TheVariants.{Order, TooMany, Room}
use Rattle.table.specs.declared.Task.{Task}
use Rattle.table.specs.declared.Use.{Use}
use Rattle.table.specs.Fields.{use_at, no_task, no_use}
use Rattle.std.specs.Prelude.{Result, Ok, Err}
use Rattle.table.specs.Replies.{why_number}
use Rattle.table.specs.Reading.{Reading, refusal, read_table}
use Rattle.table.proofs.Laid.{Laid, RefusedBy, numbers, crowded, overused}
use Rattle.held.specs.declared.Table.{Table}
use Rattle.held.specs.Writing.{task_bytes, use_bytes, all, encode, decided, write_table}
use Rattle.held.proofs.Joined.{all_append}
use Rattle.held.proofs.Laying.{laid_out, laid_out_lem, use_priority}

-- ---- the records that are written

module _ {A : Type 0} (none : A) (limit : ℕ) (xs : List A) (count : ℕ) where
  -- the entries that count, and an empty one where the count is above its limit
  abbrev pub listed : List A
  listed = every (λ (i : ℕ). get_or xs i none) (min count limit) 0 ++ cond (ltb limit count) (none ∷ []) []

  pub listed_within : count ≤ limit → listed ≡ every (λ (i : ℕ). get_or xs i none) count 0
  listed_within h = rw (min-eq_left h, le-ltb limit count h) (append-nil (every (λ (i : ℕ). get_or xs i none) count 0))

  pub listed_beyond : limit < count → listed ≡ every (λ (i : ℕ). get_or xs i none) limit 0 ++ none ∷ []
  listed_beyond h = let m : limit ≤ count = omega arith in rw (min-eq_right m, lt-ltb limit count h)

  pub length_within : count ≤ limit → length listed ≡ count
  length_within h = ap length (listed_within h) ∙ length_every (λ (i : ℕ). get_or xs i none) count 0

  pub length_beyond : limit < count → length listed ≡ limit + 1
  length_beyond h =
      ap length (listed_beyond h) ∙ length-append (every (λ (i : ℕ). get_or xs i none) limit 0) (none ∷ [])
      ∙ ap (λ (n : ℕ). n + 1) (length_every (λ (i : ℕ). get_or xs i none) limit 0)

-- a record more, or none, behind the others
all_more : {A : Type 0} (e : A → List ℕ) (xs : List A) (x : A) (b : Bool) → all e xs ++ cond b (e x) [] ≡ all e (xs ++ cond b (x ∷ []) [])
unfolding all
all_more e xs x true = ap (λ (l : List ℕ). all e xs ++ l) (sym (append-nil (e x))) ∙ sym (all_append e xs (x ∷ []))
all_more e xs x false = append-nil (all e xs) ∙ ap (all e) (sym (append-nil xs))

module _ (t : Table) where
  -- the tasks and the uses whose records are written
  abbrev pub tasks_listed : List Task
  tasks_listed = listed no_task 32 t.tasks t.task_count

  abbrev pub uses_listed : List Use
  uses_listed = listed no_use 512 t.uses t.use_count

  -- the bytes of a table are its records one after the other
  pub encode_is : encode t ≡ laid_out tasks_listed uses_listed
  unfolding encode
  encode_is =
      rw (
        all_more task_bytes (every (λ (i : ℕ). get_or t.tasks i no_task) (min t.task_count 32) 0) no_task (ltb 32 t.task_count),
        all_more use_bytes (every (λ (j : ℕ). get_or t.uses j no_use) (min t.use_count 512) 0) no_use (ltb 512 t.use_count),
      )

  pub encode_laid : Laid (encode t) (length tasks_listed) (length uses_listed)
  encode_laid = subst (λ (s : List ℕ). Laid s (length tasks_listed) (length uses_listed)) (sym encode_is) (laid_out_lem tasks_listed uses_listed)

-- ---- the writer's refusals

-- an answer is a refusal, of which P holds
pub record Refuses (w : Result ℕ Refusal) (P : Refusal → Type 0) : Type 0 where
  pub refused : Refusal
  pub same : w ≡ Err refused
  pub holds : P refused

-- a table whose bytes are refused is refused
as_read : (t : Table) (room : ℕ) (P : Refusal → Type 0) → RefusedBy (read_table (encode t)) P → Refuses (write_table t room) P
unfolding decided
as_read t room P r = record { refused = r.refused; same = ap (λ (x : Reading). decided x (length (encode t)) room) r.same; holds = r.holds }

-- 3 to 6, or 10 at 0
pub refusals : (t : Table) (room : ℕ) (r : Refusal) → write_table t room ≡ Err r
    → ((3 ≤ why_number r.why) × (why_number r.why ≤ 6)) ⊎ (r ≡ record { why = Room; place = 0 })
unfolding decided
refusals t room r e = go (read_table (encode t)) refl e
  where
    ten : (b : Bool) → cond b (refusal Room 0) (Ok (length (encode t))) ≡ Err r
        → r ≡ record { why = Room; place = 0 }
    ten true e = cc
    ten false e = absurd (impossible cc)

    go : (x : Reading) → read_table (encode t) ≡ x → decided x (length (encode t)) room ≡ Err r
        → ((3 ≤ why_number r.why) × (why_number r.why ≤ 6)) ⊎ (r ≡ record { why = Room; place = 0 })
    go (Err f) q e = inl (numbers (encode t) _ _ r (encode_laid t) (q ∙ ap Err (let z = e in cc)))
    go (Ok h) q e = inr (ten (ltb room (length (encode t))) e)

-- a task count above 32: 4 at 640, unless an earlier record is refused
pub many_tasks : (t : Table) (room : ℕ) → 32 < t.task_count → Refuses (write_table t room) (λ r. (r.place < 640) ⊎ (r ≡ record { why = TooMany; place = 640 }))
many_tasks t room h =
    as_read t room _ (crowded (encode t) _ _ (encode_laid t) (let l = length_beyond no_task 32 t.tasks t.task_count h in omega arith))

-- a use count above 512: 3 where the 513th would stand, unless an earlier record is refused
pub many_uses : (t : Table) (room : ℕ) → t.task_count ≤ 32 → 512 < t.use_count
    → Refuses (write_table t room) (λ r. (r.place < 20 * t.task_count + 4096) ⊎ (r ≡ record { why = Order; place = 20 * t.task_count + 4096 }))
many_uses t room few h =
    let n = length_within no_task 32 t.tasks t.task_count few in
    let m = length_beyond no_use 512 t.uses t.use_count h in
    let laid = subst (λ (k : ℕ). Laid (encode t) k (length (uses_listed t))) n (encode_laid t) in
    let last : get_or (uses_listed t) 512 no_use ≡ no_use =
    ap (λ (l : List Use). get_or l 512 no_use) (listed_beyond no_use 512 t.uses t.use_count h)
    ∙ ap (λ (k : ℕ). get_or (every (λ (i : ℕ). get_or t.uses i no_use) 512 0 ++ no_use ∷ []) k no_use) (sym (length_every (λ (i : ℕ). get_or t.uses i no_use) 512 0))
    ∙ get_or-append_seam (every (λ (i : ℕ). get_or t.uses i no_use) 512 0) no_use [] no_use in
    let none : (use_at (encode t) (20 * t.task_count + 4096)).priority ≡ 0 =
    ap (λ (s : List ℕ). (use_at s (20 * t.task_count + 4096)).priority) (encode_is t)
    ∙ ap (λ (k : ℕ). (use_at (laid_out (tasks_listed t) (uses_listed t)) (20 * k + 4096)).priority) (sym n)
    ∙ use_priority (tasks_listed t) (uses_listed t) 512 (omega arith) ∙ ap (λ (u : Use). u.priority) last in
    as_read t room _ (overused (encode t) t.task_count (length (uses_listed t)) laid few (omega arith) none)
