-- Laws of words and numbers in a text.
use Prim.Native.Nat.{ℕ, zero, suc, ◌+◌, ◌*◌, ◌/◌, ◌%◌, ◌^◌, ◌≤◌, ◌<◌}
use mathlib.Core.Path.{◌≡◌, refl, ap, ap₂, ◌∙◌}
use mathlib.Core.Bool.{Bool, true, false, ◌&&◌}
use mathlib.Core.List.{List, [], ◌∷◌, ◌++◌}
use native.Mathlib.Nat.{pow-zero, pow-suc}
use native.Mathlib.Numerals.{add-one}
use native.Mathlib.Omega.{arith}
use lib.Dec.{eqb}
use borrow.Author.Tests.{eqb-true}
use Rattle.searches.proofs.Testing.{impossible}
use lib.ListN.{length, take, drop, get_or}
use Rattle.std.proofs.lemmas.Grind.{common_steps}
use lib.Pointwise.{pointwise}
use Rattle.std.specs.List.{fold, prefix_len, take_while}
use Rattle.std.proofs.lemmas.List.Sums.{prefix_len-le-length}
use lib.Seq.{length-take-le}
use Rattle.table.specs.declared.Refusal.{Refusal}
use Rattle.table.specs.Replies.{why_number}
use Rattle.words.specs.Text.{text, digits_in, decimal, labelled, joined}
use Rattle.words.specs.Refusing.{refused_line, refusal_line}
use Rattle.words.specs.Classes.{class_number, class_of}
use Rattle.words.specs.Finding.{lead, in_class, run_end, digit, same, is_number, with_digit, value_on, value_of, printable, printables, found_text}

-- ---- a run of bytes

-- a run is the prefix that has the property
prefix_lead : (p : ℕ → Bool) (s : List ℕ) → prefix_len p s ≡ lead p s
unfolding lead
prefix_lead p [] = refl
prefix_lead p (b ∷ s) = grind (arith, common_steps, prefix_lead p s)

-- a run is as long as what an iterator takes
pub lead_taken : (p : ℕ → Bool) (s : List ℕ) → length (take_while p s) ≡ lead p s
lead_taken p s = length-take-le (prefix_len p s) s (prefix_len-le-length p s) ∙ prefix_lead p s

-- past the text's end there is no run
pub lead_past : (p : ℕ → Bool) (s : List ℕ) (at : ℕ) → length s ≤ at → at + lead p (drop at s) ≡ at
unfolding lead
lead_past p s at l = grind (arith, common_steps)

-- a class has the bytes that its number has, whatever the number is
pub class_told : (n b : ℕ) → in_class (class_number (class_of n)) b ≡ in_class n b
class_told zero b = refl
class_told (suc zero) b = refl
class_told (suc (suc zero)) b = refl
class_told (suc (suc (suc n))) b = grind (arith, common_steps)

-- so a run of the class ends where one of the number does
pub run_told : (s : List ℕ) (at n : ℕ) → run_end s at (class_number (class_of n)) ≡ run_end s at n
run_told s at n = λ i. at + lead (λ b. class_told n b i) (drop at s)

-- a run that is a whole text goes on in the text after it
pub lead_all : (p : ℕ → Bool) (t rest : List ℕ) → lead p t ≡ length t → lead p (t ++ rest) ≡ length t + lead p rest
unfolding lead
lead_all p [] rest e = omega arith
lead_all p (b ∷ t) rest e = grind (arith, common_steps, lead_all p t rest)

-- ---- the same texts

-- as the comparison of slices tells
pub same_slices : (s t : List ℕ) → pointwise eqb s t ≡ same s t
unfolding same
same_slices [] [] = refl
same_slices [] (b ∷ t) = refl
same_slices (a ∷ s) [] = refl
same_slices (a ∷ s) (b ∷ t) = ap (λ (x : Bool). eqb a b && x) (same_slices s t)

-- a text is the same as itself
pub same_refl : (t : List ℕ) → same t t ≡ true
unfolding same
same_refl [] = refl
same_refl (b ∷ t) = grind (arith, common_steps, same_refl t)

-- texts that test the same are equal
pub same_is : (s t : List ℕ) → same s t ≡ true → s ≡ t
unfolding same
same_is [] [] e = refl
same_is [] (b ∷ t) e = absurd (impossible cc)
same_is (a ∷ s) [] e = absurd (impossible cc)
same_is (a ∷ s) (b ∷ t) e = go (eqb a b) refl e (same_is s t)
  where
    go : (x : Bool) → eqb a b ≡ x → x && same s t ≡ true → (same s t ≡ true → s ≡ t) → a ∷ s ≡ b ∷ t
    go true q f rest = ap₂ (λ (c : ℕ) (r : List ℕ). c ∷ r) (eqb-true a b q) (rest f)
    go false q f rest = absurd (impossible cc)

-- texts that differ in length differ
pub same_sized : (s t : List ℕ) → (length s ≡ length t → ⊥) → same s t ≡ false
same_sized s t h = go (same s t) refl
  where
    go : (x : Bool) → same s t ≡ x → x ≡ false
    go true q = absurd (h (ap length (same_is s t q)))
    go false q = refl

-- ---- the value of digits

-- the digits are taken one after the other
pub value_folds : (v : ℕ) (w : List ℕ) → fold with_digit v w ≡ value_on v w
unfolding value_on
value_folds v [] = refl
value_folds v (b ∷ w) = value_folds (with_digit v b) w

-- the digits of two texts are taken one text after the other
pub value_append : (v : ℕ) (s t : List ℕ) → value_on v (s ++ t) ≡ value_on (value_on v s) t
unfolding value_on
value_append v [] t = refl
value_append v (b ∷ s) t = value_append (with_digit v b) s t

-- a digit below 10 after a value in range
digit_value : (v d : ℕ) → v ≤ 1000000 → with_digit v (48 + d) ≡ 10 * v + d
digit_value v d l = grind (arith, common_steps)

-- a number of two digits and more needs room for a second
room : (k n : ℕ) → 10 ≤ n → n < 10 ^ suc k → 1 ≤ k
room zero n s h = absurd (omega (arith, pow-suc 10 0, pow-zero 10))
room (suc k) n s h = omega arith

-- the digits of a number in range are read as that number
pub value_digits : (k n : ℕ) → n ≤ 1000000 → n < 10 ^ k → 1 ≤ k → value_of (digits_in k n) ≡ n
unfolding digits_in value_on
value_digits zero n l h g = absurd (omega arith)
value_digits (suc k) n l h g = grind (arith, common_steps, value_append 0 (digits_in k (n / 10)) ((48 + n % 10) ∷ []), value_digits k (n / 10), pow-suc 10 k, room k n)

-- a number in range is read as it is written
pub value_decimal : (n : ℕ) → n ≤ 1000000 → value_of (decimal n) ≡ n
value_decimal n l = value_digits 20 n l (omega arith) (omega arith)

-- ---- the digits of a number

-- what holds of the ten figures holds of every byte of a written number
digits_all : (p : ℕ → Bool) → ((d : ℕ) → d < 10 → p (48 + d) ≡ true) → (k n : ℕ) → lead p (digits_in k n) ≡ length (digits_in k n)
unfolding digits_in lead
digits_all p h zero n = refl
digits_all p h (suc k) n = grind (arith, common_steps, h (n % 10), h n, lead_all p (digits_in k (n / 10)) ((48 + n % 10) ∷ []), digits_all p h k (n / 10))

-- a figure is a digit
figure_digit : (b : ℕ) → 48 ≤ b → b ≤ 57 → digit b ≡ true
figure_digit b l h = grind (arith, common_steps)

-- a figure is a byte of a word
figure_word : (b : ℕ) → 48 ≤ b → b ≤ 57 → in_class 1 b ≡ true
figure_word b l h = grind (arith, common_steps)

-- a written number is all digits
pub digits_lead : (n : ℕ) → lead digit (decimal n) ≡ length (decimal n)
digits_lead n = digits_all digit (λ d l. figure_digit (48 + d) (omega arith) (omega arith)) 20 n

-- a written number is all bytes of a word
pub digits_word : (n : ℕ) → lead (in_class 1) (decimal n) ≡ length (decimal n)
digits_word n = digits_all (in_class 1) (λ d l. figure_word (48 + d) (omega arith) (omega arith)) 20 n

-- a number with room for a digit has one
some_digit : (k n : ℕ) → 1 ≤ length (digits_in (suc k) n)
unfolding digits_in
some_digit k n = grind (arith, common_steps)

-- a written number has a digit
pub digits_some : (n : ℕ) → 1 ≤ length (decimal n)
digits_some n = some_digit 19 n

-- a number has no more digits than there is room for
digits_few : (k n : ℕ) → length (digits_in k n) ≤ k
unfolding digits_in
digits_few zero n = omega arith
digits_few (suc k) n = grind (arith, common_steps, digits_few k (n / 10))

-- a written number has at most 20 digits
pub decimal_few : (n : ℕ) → length (decimal n) ≤ 20
decimal_few n = digits_few 20 n

-- a written number is a number
pub number_decimal : (n : ℕ) → is_number (decimal n) ≡ true
number_decimal n = grind (arith, common_steps, digits_some n, digits_lead n)

-- ---- texts one after the other

-- the last of the texts stands after the others
joined_suc : (f : ℕ → List ℕ) (k i : ℕ) → joined f (suc k) i ≡ joined f k i ++ f (i + k)
unfolding joined
joined_suc f zero i = grind (arith, common_steps)
joined_suc f (suc k) i = rw (joined_suc f k (i + 1)) (grind (arith, common_steps))

-- one text more stands after the others
pub joined_more : (f : ℕ → List ℕ) (k i : ℕ) → joined f (k + 1) i ≡ joined f k i ++ f (i + k)
joined_more f k i = rw add-one (joined_suc f k i)

-- texts that are short are together at most so long
pub joined_most : (f : ℕ → List ℕ) (b k i : ℕ) → ((j : ℕ) → length (f j) ≤ b) → length (joined f k i) ≤ b * k
unfolding joined
joined_most f b zero i h = omega arith
joined_most f b (suc k) i h = grind (arith, common_steps, h i, joined_most f b k (i + 1) h)

-- ---- bytes as they may be printed

-- as many bytes
pub printables_length : (w : List ℕ) → length (printables w) ≡ length w
unfolding printables
printables_length [] = refl
printables_length (b ∷ w) = ap suc (printables_length w)

-- as many bytes as the front of a word has
pub printables_front : (w : List ℕ) (i : ℕ) → i ≤ length w → length (printables (take i w)) ≡ i
printables_front w i l = printables_length (take i w) ∙ length-take-le i w l

-- none
pub printables_none : printables [] ≡ []
unfolding printables
printables_none = refl

-- one byte more, with the number as a successor
printables_suc : (w : List ℕ) (i : ℕ) → i < length w → printables (take (suc i) w) ≡ printables (take i w) ++ (printable (get_or w i 0) ∷ [])
unfolding printables
printables_suc [] i h = absurd (omega arith)
printables_suc (b ∷ w) zero h = refl
printables_suc (b ∷ w) (suc i) h = grind (arith, common_steps, printables_suc w i)

-- one byte more
pub printables_more : (w : List ℕ) (i : ℕ) → i < length w → printables (take (i + 1) w) ≡ printables (take i w) ++ (printable (get_or w i 0) ∷ [])
printables_more w i h = rw add-one (printables_suc w i h)

-- ---- what was found where a word was expected

-- the line ended
pub found_none : (w : List ℕ) → length w ≡ 0 → found_text w ≡ text "the end of the line"
found_none w e = grind (arith, common_steps)

-- a word that is shown whole
pub found_whole : (w : List ℕ) → (length w ≡ 0 → ⊥) → length w ≤ 24 → found_text w ≡ printables w
found_whole w e l = grind (arith, common_steps)

-- a word whose front is shown
pub found_front : (w : List ℕ) → 24 < length w → found_text w ≡ printables (take 24 w) ++ text "..."
found_front w l = grind (arith, common_steps)

-- ---- how long texts are at most

-- a word and a number
pub labelled_few : (label : List ℕ) (n : ℕ) → length (labelled label n) ≤ length label + 20
labelled_few label n = grind (arith, common_steps, decimal_few n)

-- what was found
pub found_few : (w : List ℕ) → length (found_text w) ≤ 27
found_few w = grind (arith, common_steps, printables_length w, printables_length (take 24 w))

-- the line of a refusal, of any number
pub refused_few : (number place : ℕ) → length (refused_line number place) ≤ 64
refused_few number place = grind (arith, common_steps, decimal_few number, decimal_few place)

pub refusal_few : (f : Refusal) → length (refusal_line f) ≤ 64
refusal_few f = refused_few (why_number f.why) f.place
