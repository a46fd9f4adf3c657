-- What a test chooses.
use mathlib.Core.Bool.{Bool, true, false, cond}

-- what is so of both is so of either
pub chosen : {A : Type 0} (P : A → Type 0) (b : Bool) {x y : A} → P x → P y → P (cond b x y)
chosen P true p q = p
chosen P false p q = q
