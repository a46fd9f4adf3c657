-- Texts and numbers as bytes.
use Rattle.std.specs.Prelude.{ℕ, zero, suc, ◌+◌, ◌/◌, ◌%◌, cond, List, [], ◌∷◌, ◌++◌, ltb}
use Prim.Native.Char.{code}
use Prim.Native.String as string
use Prim.Native.String.{String}

-- the characters of a text
abbrev pub text : String → List ℕ
text string.[] = []
text (string.◌∷◌ c s) = code c ∷ text s

-- the decimal digits of a number that has at most k
unfoldable pub digits_in : ℕ → ℕ → List ℕ
digits_in zero n = []
digits_in (suc k) n = let more = digits_in k (n / 10) in cond (ltb n 10) ((48 + n) ∷ []) (more ++ ((48 + n % 10) ∷ []))

-- the decimal digits of a number below 10 ^ 20, as every number of 64 bits is
abbrev pub decimal : ℕ → List ℕ
decimal n = digits_in 20 n

-- a word and a number after it
abbrev pub labelled : List ℕ → ℕ → List ℕ
labelled label n = label ++ decimal n

-- the end of a line
abbrev pub newline : List ℕ
newline = 10 ∷ []

-- a text where a buffer has room for the most that is ever put, else none
abbrev pub fitted : ℕ → ℕ → List ℕ → List ℕ
fitted most room s = cond (ltb room most) [] s

-- the texts f i, f (i + 1) and so on, k of them, one after the other
unfoldable pub joined : (ℕ → List ℕ) → ℕ → ℕ → List ℕ
joined f zero i = []
joined f (suc k) i = f i ++ joined f k (i + 1)
