-- The classes of bytes, by number.
use Rattle.std.specs.Prelude.{ℕ, zero, suc, ◌≡◌, refl}
use Rattle.words.specs.declared.finding.Class.{Class}
use Rattle.words.specs.declared.finding.Class.TheVariants.{Blank, Word, Line, Digit}

-- a class by its number
abbrev pub class_number : Class → ℕ
class_number Blank = 0
class_number Word = 1
class_number Line = 2
class_number Digit = 3

-- the class of a number
abbrev pub class_of : ℕ → Class
class_of zero = Blank
class_of (suc zero) = Word
class_of (suc (suc zero)) = Line
class_of (suc (suc (suc n))) = Digit

-- each class has a number of its own
pub class_of_number : (c : Class) → class_of (class_number c) ≡ c
class_of_number Blank = refl
class_of_number Word = refl
class_of_number Line = refl
class_of_number Digit = refl
