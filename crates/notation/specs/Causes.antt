-- The causes of a fault by their numbers in docs/NOTATION.md.
use Rattle.std.specs.Prelude.{ℕ, List, [], ◌∷◌, get_or}
use Rattle.notation.specs.declared.causes.Cause.{Cause}
use Rattle.notation.specs.declared.causes.Cause.TheVariants.{
  Unknown,
  FirstWord,
  OtherName,
  NoNumber,
  BelowRange,
  AboveRange,
  MoreWords,
  SettingHigh,
  Sleepless,
  RunHigh,
  DeadlineHigh,
  OneTooMany,
  AfterUse,
  NotBelow,
  OfNoTask,
  OutOfOrder,
  PastRun,
  NoTask,
  TooLong,
  NoRoom,
}

-- a cause's number: 1 to 6 a word of a line, 7 to 16 a rule on records, 17 to 19 the whole; 0 none of these
abbrev pub cause_number : Cause → ℕ
cause_number Unknown = 0
cause_number FirstWord = 1
cause_number OtherName = 2
cause_number NoNumber = 3
cause_number BelowRange = 4
cause_number AboveRange = 5
cause_number MoreWords = 6
cause_number SettingHigh = 7
cause_number Sleepless = 8
cause_number RunHigh = 9
cause_number DeadlineHigh = 10
cause_number OneTooMany = 11
cause_number AfterUse = 12
cause_number NotBelow = 13
cause_number OfNoTask = 14
cause_number OutOfOrder = 15
cause_number PastRun = 16
cause_number NoTask = 17
cause_number TooLong = 18
cause_number NoRoom = 19

-- the causes in the order of their numbers
abbrev pub causes : List Cause
causes =
    Unknown ∷ FirstWord ∷ OtherName ∷ NoNumber ∷ BelowRange ∷ AboveRange ∷ MoreWords
    ∷ SettingHigh ∷ Sleepless ∷ RunHigh ∷ DeadlineHigh ∷ OneTooMany ∷ AfterUse ∷ NotBelow ∷ OfNoTask ∷ OutOfOrder ∷ PastRun
    ∷ NoTask ∷ TooLong ∷ NoRoom ∷ []

-- the cause that has a number; from 20 on it is the last
abbrev pub cause_of : ℕ → Cause
cause_of n = get_or causes n NoRoom
