-- What is seen by numbers loses nothing: the code's cause, column, fault and answer are found again from their numbers.
use Prim.Native.Nat.{ℕ, ◌+◌, ◌≤◌, ◌<◌}
use mathlib.Core.Path.{◌≡◌, refl, sym, ap, ap₂, ◌∙◌}
use mathlib.Core.List.{List, map}
use native.Mathlib.Omega.{arith}
use lib.ListN.{length, get_or, length-map, get_or-map}
use Rattle.std.proofs.Common.{◌≢◌, Option, Some, None, Result, Ok, Err}
use Rattle.std.specs.List.{range_with_len}
use Rattle.std.proofs.lemmas.List.FromFn.{length-range_with_len, get_or-range_with_len}
use Rattle.notation.specs.declared.causes.Cause.{Cause}
use Rattle.notation.specs.declared.causes.Cause.TheVariants.{
  Unknown,
  FirstWord,
  OtherName,
  NoNumber,
  BelowRange,
  AboveRange,
  MoreWords,
  SettingHigh,
  Sleepless,
  RunHigh,
  DeadlineHigh,
  OneTooMany,
  AfterUse,
  NotBelow,
  OfNoTask,
  OutOfOrder,
  PastRun,
  NoTask,
  TooLong,
  NoRoom,
}
use Rattle.notation.specs.declared.columns.Column.{Column}
use Rattle.notation.specs.declared.columns.Column.TheVariants.{Task, Setting, Sleeps, Run, Sleep, Deadline, Period, Use, Resource, Times, Length}
use Rattle.notation.specs.declared.Fault.{Fault as NamedFault}
use Rattle.notation.specs.Causes.{cause_number, cause_of}
use Rattle.notation.specs.Columns.{column_number, column_or_none, column_of}
use Rattle.notation.specs.Numbered.{Packing, Packed, Faulty, fault_of, named, packing_of}

-- ---- causes

-- each cause is found again
pub cause_again : (c : Cause) → cause_of (cause_number c) ≡ c
cause_again Unknown = refl
cause_again FirstWord = refl
cause_again OtherName = refl
cause_again NoNumber = refl
cause_again BelowRange = refl
cause_again AboveRange = refl
cause_again MoreWords = refl
cause_again SettingHigh = refl
cause_again Sleepless = refl
cause_again RunHigh = refl
cause_again DeadlineHigh = refl
cause_again OneTooMany = refl
cause_again AfterUse = refl
cause_again NotBelow = refl
cause_again OfNoTask = refl
cause_again OutOfOrder = refl
cause_again PastRun = refl
cause_again NoTask = refl
cause_again TooLong = refl
cause_again NoRoom = refl

-- no cause but the unknown one has the number 0
pub cause_some : (c : Cause) → c ≢ Unknown → 1 ≤ cause_number c
cause_some Unknown other = absurd (other refl)
cause_some FirstWord other = omega arith
cause_some OtherName other = omega arith
cause_some NoNumber other = omega arith
cause_some BelowRange other = omega arith
cause_some AboveRange other = omega arith
cause_some MoreWords other = omega arith
cause_some SettingHigh other = omega arith
cause_some Sleepless other = omega arith
cause_some RunHigh other = omega arith
cause_some DeadlineHigh other = omega arith
cause_some OneTooMany other = omega arith
cause_some AfterUse other = omega arith
cause_some NotBelow other = omega arith
cause_some OfNoTask other = omega arith
cause_some OutOfOrder other = omega arith
cause_some PastRun other = omega arith
cause_some NoTask other = omega arith
cause_some TooLong other = omega arith
cause_some NoRoom other = omega arith

-- ---- columns

-- each column, and none, is found again
pub column_again : (c : Option Column) → column_of (column_or_none c) ≡ c
column_again None = refl
column_again (Some Task) = refl
column_again (Some Setting) = refl
column_again (Some Sleeps) = refl
column_again (Some Run) = refl
column_again (Some Sleep) = refl
column_again (Some Deadline) = refl
column_again (Some Period) = refl
column_again (Some Use) = refl
column_again (Some Resource) = refl
column_again (Some Times) = refl
column_again (Some Length) = refl

-- of columns whose numbers follow each other there are as many as numbers
pub columns_many : (some : List Column) (first k : ℕ) → map column_number some ≡ range_with_len first k → length some ≡ k
columns_many some first k e = sym (length-map some column_number) ∙ ap length e ∙ length-range_with_len first k

-- of columns whose numbers follow each other, each has the number of its place
pub number_there : (some : List Column) (first k i : ℕ) (d : Column) → map column_number some ≡ range_with_len first k → i < length some
    → column_number (get_or some i d) ≡ first + i
number_there some first k i d e h =
    let n : i < k = omega (arith, columns_many some first k e) in
    sym (get_or-map column_number some i d) ∙ ap (λ (l : List ℕ). get_or l i (column_number d)) e ∙ get_or-range_with_len first k i (column_number d) n

-- ---- faults and answers

-- each fault is found again
pub fault_again : (f : NamedFault) → named (fault_of f) ≡ f
unfolding named
fault_again f =
    ap₂ (λ (c : Cause) (k : Option Column). record { line = f.line; cause = c; column = k; at = f.at; value = f.value; other = f.other })
    (cause_again f.cause) (column_again f.column)

-- the code's answer that is seen so
unfoldable pub answer : Packing → Result ℕ NamedFault
answer (Packed n) = Ok n
answer (Faulty f) = Err (named f)

-- each answer is found again
pub packing_again : (r : Result ℕ NamedFault) → answer (packing_of r) ≡ r
unfolding answer
packing_again (Ok n) = refl
packing_again (Err f) = ap Err (fault_again f)

-- so two answers that are seen as one are one
pub packing_one : (r q : Result ℕ NamedFault) → packing_of r ≡ packing_of q → r ≡ q
packing_one r q e = sym (packing_again r) ∙ ap answer e ∙ packing_again q
