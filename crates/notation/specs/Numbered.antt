-- A fault and an answer with the numbers of docs/NOTATION.md, of which all definitions speak, and how the code's are seen so.
use Rattle.std.specs.Prelude.{ℕ, Result, Ok, Err}
use Rattle.notation.specs.declared.Fault.{Fault as NamedFault}
use Rattle.notation.specs.Causes.{cause_number, cause_of}
use Rattle.notation.specs.Columns.{column_or_none, column_of}

-- a fault of a text: its line, its cause, and what that speaks of: a column, the place of a word, two values
pub record Fault : Type 0 where
  pub line : ℕ
  pub cause : ℕ
  pub column : ℕ
  pub at : ℕ
  pub value : ℕ
  pub other : ℕ

-- a fault of the code's, which names its cause and its column
abbrev pub fault_of : NamedFault → Fault
fault_of f = record {
  line = f.line;
  cause = cause_number f.cause;
  column = column_or_none f.column;
  at = f.at;
  value = f.value;
  other = f.other;
}

-- the code's fault that has these numbers
unfoldable pub named : Fault → NamedFault
named f = record {
  line = f.line;
  cause = cause_of f.cause;
  column = column_of f.column;
  at = f.at;
  value = f.value;
  other = f.other;
}

-- how many bytes the table of a text has, or the first fault
pub data Packing : Type 0 where
  Packed : ℕ → Packing
  Faulty : Fault → Packing

-- an answer of the code's
abbrev pub packing_of : Result ℕ NamedFault → Packing
packing_of (Ok n) = Packed n
packing_of (Err f) = Faulty (fault_of f)
