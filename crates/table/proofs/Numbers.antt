-- The number of a refusal tells which it is.
use Prim.Native.Nat.{ℕ, ◌-◌}
use mathlib.Core.Path.{◌≡◌, refl, sym, ap, ◌∙◌}
use mathlib.Core.List.{[], ◌∷◌}
use lib.ListN.{get_or}
use Rattle.table.specs.declared.Why.{Why}
use Rattle.table.specs.declared.Why.TheVariants.{Cut, Kind, Order, TooMany, Range, Sections, Beyond, Allowance, Rows, Room}
use Rattle.table.specs.Replies.{why_number}

-- the refusal with a number
abbrev why_of : ℕ → Why
why_of n = get_or (Cut ∷ Kind ∷ Order ∷ TooMany ∷ Range ∷ Sections ∷ Beyond ∷ Allowance ∷ Rows ∷ Room ∷ []) (n - 1) Cut

pub why_back : (y : Why) → why_of (why_number y) ≡ y
why_back Cut = refl
why_back Kind = refl
why_back Order = refl
why_back TooMany = refl
why_back Range = refl
why_back Sections = refl
why_back Beyond = refl
why_back Allowance = refl
why_back Rows = refl
why_back Room = refl

-- two refusals with one number are one
pub why_told : (y z : Why) → why_number y ≡ why_number z → y ≡ z
why_told y z e = sym (why_back y) ∙ ap why_of e ∙ why_back z
