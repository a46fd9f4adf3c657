-- The number of each refusal; the number, the place and the text of one that is answered. Number and place are 0 of an answer that is none.
use Rattle.std.specs.Prelude.{ℕ, List, ◌++◌, Result, Ok, Err, codes, decimal}
use Rattle.table.specs.declared.Why.{Why}
use Rattle.table.specs.declared.Why.TheVariants.{Cut, Kind, Order, TooMany, Range, Sections, Beyond, Allowance, Rows, Room}
use Rattle.table.specs.declared.Refusal.{Refusal}

-- the number by which a host and the text know a refusal
abbrev pub why_number : Why → ℕ
why_number Cut = 1
why_number Kind = 2
why_number Order = 3
why_number TooMany = 4
why_number Range = 5
why_number Sections = 6
why_number Beyond = 7
why_number Allowance = 8
why_number Rows = 9
why_number Room = 10

-- what an answer tells of its refusal
abbrev pub told_of : {A R : Type 0} → (R → ℕ) → Result A R → ℕ
told_of f (Ok answer) = 0
told_of f (Err refusal) = f refusal

abbrev pub number_of : {A : Type 0} → Result A Refusal → ℕ
number_of = told_of (λ r. why_number r.why)

abbrev pub place_of : {A : Type 0} → Result A Refusal → ℕ
place_of = told_of (λ r. r.place)

-- as "refused 6 at 48"
abbrev pub told_text : ℕ → ℕ → List ℕ
told_text number place = codes "refused " ++ decimal number ++ codes " at " ++ decimal place

abbrev pub refusal_text : Refusal → List ℕ
refusal_text r = told_text (why_number r.why) r.place
