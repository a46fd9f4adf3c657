-- The bytes of a held table, and what the writer answers: it checks the table as if it read the written bytes.
use Rattle.std.specs.Prelude.{ℕ, ◌/◌, ◌%◌, min, List, [], ◌∷◌, ◌++◌, cond, ltb, length, get_or, take, drop, Result, Ok, Err}
use Rattle.searches.specs.Indexed.{every}
use Rattle.table.specs.declared.Task.{Task}
use Rattle.table.specs.declared.Use.{Use}
use Rattle.table.specs.declared.Refusal.{Refusal}
use Rattle.table.specs.declared.Why.TheVariants.{Room}
use Rattle.table.specs.Reading.{Reading, refusal, read_table}
use Rattle.table.specs.Fields.{no_task, no_use}
use Rattle.held.specs.declared.Table.{Table}
use Rattle.held.specs.Replies.{count_of}

-- four bytes, low byte first
abbrev pub word_bytes : ℕ → List ℕ
word_bytes w = w % 256 ∷ w / 256 % 256 ∷ w / 65536 % 256 ∷ w / 16777216 % 256 ∷ []

-- a task's record: kind 1 and 19 bytes
abbrev pub task_bytes : Task → List ℕ
task_bytes t =
    1 ∷ t.priority ∷ t.setting ∷ t.sleeps
    ∷ (word_bytes t.run ++ (word_bytes t.sleep ++ (word_bytes t.deadline ++ word_bytes t.period)))

-- a use's record: kind 2 and 7 bytes
abbrev pub use_bytes : Use → List ℕ
use_bytes u = 2 ∷ u.priority ∷ u.resource ∷ u.times ∷ word_bytes u.length

-- one after the other
unfoldable pub all : {A : Type 0} → (A → List ℕ) → List A → List ℕ
all f [] = []
all f (x ∷ xs) = f x ++ all f xs

-- the records of the first n entries of a list
abbrev pub records_bytes : {A : Type 0} → (A → List ℕ) → A → List A → ℕ → List ℕ
records_bytes e none xs n = all e (every (λ (i : ℕ). get_or xs i none) n 0)

-- the records of those that count, and an empty one more where the count is above a limit
abbrev pub part_bytes : {A : Type 0} → (A → List ℕ) → A → ℕ → List A → ℕ → List ℕ
part_bytes e none limit xs count = records_bytes e none xs (min count limit) ++ cond (ltb limit count) (e none) []

-- the records of the tasks that count, and of the uses. A task count above 32 becomes an empty 33rd task, which the reader refuses as one too
-- many if it comes so far; a use count above 512 becomes an empty 513th use, which is of no task and so refused by its order
abbrev pub task_part : List Task → ℕ → List ℕ
task_part ts count = part_bytes task_bytes no_task 32 ts count

abbrev pub use_part : List Use → ℕ → List ℕ
use_part us count = part_bytes use_bytes no_use 512 us count

-- the bytes of a table: its tasks, its uses and the end
unfoldable pub encode : Table → List ℕ
encode t = task_part t.tasks t.task_count ++ (use_part t.uses t.use_count ++ 3 ∷ [])

-- by what the bytes are read as: the refusal, one for want of room, or the length
unfoldable pub decided : Reading → ℕ → ℕ → Result ℕ Refusal
decided (Err r) n room = Err r
decided (Ok h) n room = cond (ltb room n) (refusal Room 0) (Ok n)

-- what the writer answers
abbrev pub write_table : Table → ℕ → Result ℕ Refusal
write_table t room = decided (read_table (encode t)) (length (encode t)) room

-- the buffer afterwards: the written bytes at its start, the rest as it was; all as it was after a refusal
abbrev pub written : Table → List ℕ → List ℕ
written t out = take (count_of (write_table t (length out))) (encode t) ++ drop (count_of (write_table t (length out))) out
