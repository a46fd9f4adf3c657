-- What is so of packing between two lines, and of a step. For the proofs of private functions: no promise to a caller.
use Rattle.std.specs.Prelude.{ℕ, ◌+◌, ◌*◌, ◌≤◌, ◌<◌, ◌≡◌, List, [], ◌∷◌, ◌++◌, length, take, Result, Ok, Err}
use Rattle.table.specs.Reading.{read_table}
use Rattle.notation.specs.declared.Fault.{Fault as NamedFault}
use Rattle.notation.specs.declared.stepping.Position.{Position}
use Rattle.notation.specs.declared.rows.Taken.{Taken}
use Rattle.notation.specs.Numbered.{Packing, Packed, Faulty, packing_of}
use Rattle.notation.specs.Packing.{longest, Outcome, Step, on, over, judged}

-- the records so far, at the front of a buffer
abbrev pub front_of : Position → List ℕ → List ℕ
front_of w buffer = take w.count buffer

-- the buffer has room for a record and an end more, and the numbers stay within their types
pub record Ready (s : List ℕ) (w : Position) (buffer : List ℕ) : Type 0 where
  pub room : 4800 ≤ length buffer
  pub few : w.count ≤ 4736
  pub tasks : 20 * w.tasks ≤ w.count
  pub text : length s ≤ longest
  pub within : w.at ≤ length s + 1
  pub line : w.line ≤ w.at + 1

-- a line whose record was put after those before it
pub record Judgeable (s : List ℕ) (w : Position) (buffer : List ℕ) (taken : Taken) : Type 0 where
  pub at : w.at ≤ taken.at
  pub within : taken.at ≤ length s
  pub more : w.count ≤ taken.count
  pub few : taken.count ≤ w.count + 29

-- the step that is meant, of the records in the buffer
abbrev pub judged_of : List ℕ → Position → Taken → List ℕ → Step
judged_of s w taken buffer =
    judged (read_table (take taken.count buffer ++ 3 ∷ [])) s w taken.at (take taken.count buffer)

-- how many bytes an answer says
abbrev pub count_in : Packing → ℕ
count_in (Packed n) = n
count_in (Faulty f) = 0

-- the answer is the one that is meant, and its bytes are at the front of the buffer
pub record PackedTo (o : Outcome) (buffer : List ℕ) (r : Result ℕ NamedFault) : Type 0 where
  pub same : packing_of r ≡ o.packing
  pub front : take (length o.bytes) buffer ≡ o.bytes
  pub count : count_in o.packing ≡ length o.bytes
  pub few : length o.bytes ≤ 4800

-- on from one position to a further one that is meant
pub record WentOn (s : List ℕ) (w meant : Position) (front buffer : List ℕ) (n : Position) : Type 0 where
  pub same : n ≡ meant
  pub holds : take n.count buffer ≡ front
  pub ready : Ready s n buffer
  pub further : w.at < n.at

-- a step is the one that is meant
abbrev pub Stepped : List ℕ → Position → Step → List ℕ → Result Position NamedFault → Type 0
Stepped s w (on meant front) buffer (Ok n) = WentOn s w meant front buffer n
Stepped s w (on meant front) buffer (Err f) = ⊥
Stepped s w (over o) buffer (Ok n) = ⊥
Stepped s w (over o) buffer (Err f) = PackedTo o buffer (Err f)
