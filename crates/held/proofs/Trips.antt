-- Tables written and read come back the same, both ways.
use Prim.Native.Nat.{ℕ, ◌+◌, ◌*◌, ◌-◌, ◌^◌, ◌<◌, ◌≤◌}
use mathlib.Core.Path.{◌≡◌, refl, sym, ap, subst, ◌∙◌}
use mathlib.Core.Bool.{Bool, true, false, cond}
use mathlib.Core.List.{List, ◌++◌}
use native.Mathlib.Omega.{arith}
use native.Mathlib.Decide.{dec_lt}
use lib.Dec.{ltb}
use lib.ListN.{length, get_or, take, drop, replicate}
use lib.Seq.{take_at, take_all}
use borrow.Author.Tests.{le-ltb}
use Rattle.searches.specs.Indexed.{every}
use Rattle.searches.proofs.Testing.{impossible}
use Rattle.searches.proofs.Indexed.{every_at, filled_at, every_same, every_take}
use Rattle.table.specs.declared.Shape.{Shape}
use Rattle.table.specs.declared.Task.{Task}
use Rattle.table.specs.declared.Use.{Use}
use Rattle.std.specs.Prelude.{Result, Ok, Err}
use Rattle.table.specs.declared.Refusal.{Refusal}
use Rattle.table.specs.declared.Why.TheVariants.{Room}
use Rattle.table.specs.Reading.{Reading, refusal, read_table}
use Rattle.table.specs.WellFormed.{task_of, use_of}
use Rattle.table.proofs.Accepted.{well_formed}
use Rattle.table.proofs.Laid.{counts}
use Rattle.table.specs.Fields.{no_task, no_use}
use Rattle.held.specs.declared.Table.{Table}
use Rattle.held.specs.Loading.{filled_by, load_table}
use Rattle.held.specs.Replies.{count_of}
use Rattle.held.specs.Writing.{encode, decided, write_table, written}
use Rattle.held.specs.Trips.{TaskSized, Sized, trimmed}
use Rattle.held.proofs.Laying.{laid_out, task_back, use_back}
use Rattle.held.proofs.Again.{laid_again}
use Rattle.held.proofs.Loads.{held_accepted}
use Rattle.held.proofs.Refusals.{listed, listed_within, length_within, length_beyond, tasks_listed, uses_listed, encode_is, encode_laid}

-- ---- from bytes to a table and back

-- the entries of a filled list, up to its count, are what filled it
filled_entries : {A : Type 0} (f : ℕ → A) (none : A) (k more : ℕ) → every (λ (i : ℕ). get_or (every f k 0 ++ replicate more none) i none) k 0 ≡ every f k 0
filled_entries f none k more =
    every_same (λ (i : ℕ). get_or (every f k 0 ++ replicate more none) i none) f k 0 (λ j h. filled_at f none k more j (omega arith))

-- the bytes of what an accepted table holds are the table's
bytes_back : (s : List ℕ) → ((i : ℕ) → get_or s i 0 < 256) → (h : Shape) → read_table s ≡ Ok h → encode (load_table s).table ≡ s
bytes_back s bytes h e =
    let w = well_formed s h e in
    let n = h.tasks in
    let m = h.uses in
    let b = h.uses_at in
    let t = filled_by s n b m in
    ap encode (held_accepted s h e) ∙ encode_is t
    ∙ ap (λ (ts : List Task). laid_out ts (uses_listed t)) (listed_within no_task 32 t.tasks n w.tasks_most ∙ filled_entries (task_of s) no_task n (32 - n))
    ∙ ap (λ (us : List Use). laid_out (every (task_of s) n 0) us) (listed_within no_use 512 t.uses m w.uses_most ∙ filled_entries (use_of s b) no_use m (512 - m))
    ∙ laid_again s bytes h w

-- with room for them, the writer answers their length and writes just them
pub bytes_again : (s : List ℕ) → ((i : ℕ) → get_or s i 0 < 256) → (h : Shape) → read_table s ≡ Ok h → (out : List ℕ) → length s ≤ length out
    → (write_table (load_table s).table (length out) ≡ Ok (length s)) × (written (load_table s).table out ≡ s ++ drop (length s) out)
unfolding decided
bytes_again s bytes h e out room =
    let same = bytes_back s bytes h e in
    let answer : write_table (load_table s).table (length out) ≡ Ok (length s) = accepted_written same in (
      answer,
      ap (λ (a : Result ℕ Refusal). take (count_of a) (encode (load_table s).table) ++ drop (count_of a) out) answer
          ∙ ap (λ (l : List ℕ). take (length s) l ++ drop (length s) out) same
          ∙ ap (λ (l : List ℕ). l ++ drop (length s) out) (take_all (length s) s (omega arith)),
    )
  where
    -- of an accepted table with room the answer is its length
    accepted_written : encode (load_table s).table ≡ s → write_table (load_table s).table (length out) ≡ Ok (length s)
    accepted_written same =
        ap (λ (l : List ℕ). decided (read_table l) (length l) (length out)) same
        ∙ ap (λ (r : Reading). decided r (length s) (length out)) e
        ∙ ap (λ (x : Bool). cond x (refusal Room 0) (Ok (length s))) (le-ltb (length out) (length s) room)

-- ---- from a table to bytes and back

-- what an answer that something was written tells of the reading
record Told (r : Reading) (size room n : ℕ) : Type 0 where
  shape : Shape
  accepted : r ≡ Ok shape
  all_of : n ≡ size

written_told : (r : Reading) (size room n : ℕ) → decided r size room ≡ Ok n → Told r size room n
unfolding decided
written_told (Err f) size room n e = absurd (impossible cc)
written_told (Ok h) size room n e = record { shape = h; accepted = refl; all_of = go (ltb room size) e }
  where
    go : (b : Bool) → cond b (refusal Room 0) (Ok size) ≡ Ok n → n ≡ size
    go true e = absurd (impossible cc)
    go false e = cc

-- an accepted table's counts are within their limits
count_within : (limit count size : ℕ) → size ≤ limit → (limit < count → size ≡ limit + 1) → Dec (limit < count) → count ≤ limit
count_within limit count size h f (yes l) = let z = f l in omega arith
count_within limit count size h f (no l) = omega arith

-- the first entries of a list, where a reading gives each of them, and the rest none
entries_back : {A : Type 0} (f : ℕ → A) (xs : List A) (none : A) (k : ℕ) → k ≤ length xs → ((j : ℕ) → j < k → f j ≡ get_or xs j none) → every f k 0 ≡ take k xs
entries_back f xs none k h g = every_same f (λ (j : ℕ). get_or xs j none) k 0 (λ j l. g j (omega arith)) ∙ every_take xs none k 0 (omega arith)

-- an entry that is listed
entry_listed : {A : Type 0} (none : A) (limit : ℕ) (xs : List A) (count : ℕ) → count ≤ limit → (j : ℕ) → j < count
    → get_or (listed none limit xs count) j none ≡ get_or xs j none
entry_listed none limit xs count h j l =
    ap (λ (ys : List _). get_or ys j none) (listed_within none limit xs count h) ∙ every_at (λ (i : ℕ). get_or xs i none) count j none l

module _ (t : Table) (z : Sized t) (h : Shape) (e : read_table (encode t) ≡ Ok h) where
  -- the counts that are read are those of the records that are written
  shape_is : h ≡ record { tasks = length (tasks_listed t); uses_at = 20 * length (tasks_listed t); uses = length (uses_listed t) }
  shape_is = counts (encode t) (length (tasks_listed t)) (length (uses_listed t)) h (encode_laid t) e

  tasks_few : t.task_count ≤ 32
  tasks_few =
      count_within 32 t.task_count h.tasks (well_formed (encode t) h e).tasks_most
      (λ l. ap (λ (x : Shape). x.tasks) shape_is ∙ length_beyond no_task 32 t.tasks t.task_count l) (dec_lt 32 t.task_count)

  uses_few : t.use_count ≤ 512
  uses_few =
      count_within 512 t.use_count h.uses (well_formed (encode t) h e).uses_most
      (λ l. ap (λ (x : Shape). x.uses) shape_is ∙ length_beyond no_use 512 t.uses t.use_count l) (dec_lt 512 t.use_count)

  -- so they are the table's
  tasks_are : length (tasks_listed t) ≡ t.task_count
  tasks_are = length_within no_task 32 t.tasks t.task_count tasks_few

  uses_are : length (uses_listed t) ≡ t.use_count
  uses_are = length_within no_use 512 t.uses t.use_count uses_few

  -- each task that counts reads back
  task_entry : (j : ℕ) → j < t.task_count → task_of (encode t) j ≡ get_or t.tasks j no_task
  task_entry j l =
      let own = entry_listed no_task 32 t.tasks t.task_count tasks_few j l in
      ap (λ (x : List ℕ). task_of x j) (encode_is t)
      ∙ task_back (tasks_listed t) (uses_listed t) j (omega (arith, tasks_are)) (subst TaskSized (sym own) (z.task_sized j (omega (arith, tasks_few)))) ∙ own

  -- and each use
  use_entry : (j : ℕ) → j < t.use_count → use_of (encode t) (20 * length (tasks_listed t)) j ≡ get_or t.uses j no_use
  use_entry j l =
      let own = entry_listed no_use 512 t.uses t.use_count uses_few j l in
      ap (λ (x : List ℕ). use_of x (20 * length (tasks_listed t)) j) (encode_is t)
      ∙ use_back (tasks_listed t) (uses_listed t) j (omega (arith, uses_are))
      (subst (λ (u : Use). u.length < 2 ^ 32) (sym own) (z.use_sized j (omega (arith, uses_few)))) ∙ own

  -- a table whose bytes are accepted is what they hold, with the entries past its counts 0
  table_back : (load_table (encode t)).table ≡ trimmed t
  table_back =
      let start = 20 * length (tasks_listed t) in
      held_accepted (encode t) h e
      ∙ ap (λ (x : Shape). filled_by (encode t) x.tasks x.uses_at x.uses) shape_is
      ∙ ap (λ (k : ℕ). filled_by (encode t) k start (length (uses_listed t))) tasks_are
      ∙ ap (λ (k : ℕ). filled_by (encode t) t.task_count start k) uses_are
      ∙ cc (
        entries_back (task_of (encode t)) t.tasks no_task t.task_count (omega (arith, z.tasks, tasks_few)) task_entry,
        entries_back (use_of (encode t) start) t.uses no_use t.use_count (omega (arith, z.uses, uses_few)) use_entry,
      )

-- what was written, loaded, is the table with the entries past its counts 0
pub table_again : (t : Table) → Sized t → (out : List ℕ) (n : ℕ) → write_table t (length out) ≡ Ok n
    → (load_table (take n (written t out))).table ≡ trimmed t
table_again t z out n e =
    let told = written_told (read_table (encode t)) (length (encode t)) (length out) n e in
    let whole : take n (encode t) ≡ encode t = take_all n (encode t) (omega (arith, told.all_of)) in
    let front : take n (written t out) ≡ encode t =
    ap (λ (a : Result ℕ Refusal). take n (take (count_of a) (encode t) ++ drop (count_of a) out)) e
    ∙ ap (λ (l : List ℕ). take n (l ++ drop n out)) whole
    ∙ take_at (encode t) (drop n out) n (sym told.all_of) in
    ap (λ (l : List ℕ). (load_table l).table) front ∙ table_back t z told.shape told.accepted
