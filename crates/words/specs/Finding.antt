-- Where words stand in a text, which of them are the same, and which are numbers.
use Rattle.std.specs.Prelude.{ℕ, suc, ◌+◌, ◌*◌, ◌-◌, Bool, true, false, cond, not, ◌&&◌, ◌||◌, List, [], ◌∷◌, ◌++◌, ltb, leb, eqb, length, take, drop}
use Rattle.words.specs.Text.{text}

-- a space, a tab or a carriage return
abbrev pub blank : ℕ → Bool
blank b = eqb b 32 || (eqb b 9 || eqb b 13)

-- what ends a word: a blank, the end of the line or the start of a comment, #
abbrev pub stop : ℕ → Bool
stop b = blank b || (eqb b 10 || eqb b 35)

-- a decimal digit
abbrev pub digit : ℕ → Bool
digit b = leb 48 b && leb b 57

-- the classes of bytes, by number: 0 blanks, 1 what a word has, 2 what a line has, 3 digits
abbrev pub in_class : ℕ → ℕ → Bool
in_class class b = cond (eqb class 0) (blank b) (cond (eqb class 1) (not (stop b)) (cond (eqb class 2) (not (eqb b 10)) (digit b)))

-- how many bytes from the front on have a property
unfoldable pub lead : (ℕ → Bool) → List ℕ → ℕ
lead p [] = 0
lead p (b ∷ s) = cond (p b) (suc (lead p s)) 0

-- the first place, from a place on, whose byte is not of a class, or the end of the text
abbrev pub run_end : List ℕ → ℕ → ℕ → ℕ
run_end s at class = at + lead (in_class class) (drop at s)

-- the place of the next word of the line, or of the line's end or comment where there is none
abbrev pub word_start : List ℕ → ℕ → ℕ
word_start s at = run_end s at 0

-- the word at a place, none where no word starts there
abbrev pub word_of : List ℕ → ℕ → List ℕ
word_of s at = take (lead (in_class 1) (drop at s)) (drop at s)

-- where the next line starts: past the line's end
abbrev pub next_line : List ℕ → ℕ → ℕ
next_line s at = run_end s at 2 + 1

-- two texts are the same
unfoldable pub same : List ℕ → List ℕ → Bool
same [] [] = true
same [] (b ∷ t) = false
same (a ∷ s) [] = false
same (a ∷ s) (b ∷ t) = eqb a b && same s t

-- a word is a number: one digit at least, and nothing else
abbrev pub is_number : List ℕ → Bool
is_number w = leb 1 (length w) && eqb (lead digit w) (length w)

-- a number so far, and its next digit: past 1,000,000 it stays, being above every range already
abbrev pub with_digit : ℕ → ℕ → ℕ
with_digit v b = cond (ltb 1000000 v) v (10 * v + (b - 48))

-- the digits after a number so far
unfoldable pub value_on : ℕ → List ℕ → ℕ
value_on v [] = v
value_on v (b ∷ w) = value_on (with_digit v b) w

-- the value of a number; for one above 1,000,000, some number above that
abbrev pub value_of : List ℕ → ℕ
value_of w = value_on 0 w

-- a byte as it may be printed: itself, or a question mark where it is no printable character
abbrev pub printable : ℕ → ℕ
printable b = cond (leb 33 b && leb b 126) b 63

-- the bytes of a list as they may be printed
unfoldable pub printables : List ℕ → List ℕ
printables [] = []
printables (b ∷ s) = printable b ∷ printables s

-- what was found where a word was expected: 24 bytes of it at most, or that the line ended
abbrev pub found_text : List ℕ → List ℕ
found_text w =
    cond (eqb (length w) 0) (text "the end of the line")
    (printables (take 24 w) ++ cond (ltb 24 (length w)) (text "...") [])
