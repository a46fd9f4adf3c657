-- Lists filled from the front: the settings, and the deadlines.
use Prim.Native.Nat.{ℕ, ◌+◌, ◌-◌, ◌≤◌, ◌<◌}
use mathlib.Core.Path.{◌≡◌, sym, ap, ◌∙◌}
use mathlib.Core.Bool.{cond}
use mathlib.Core.List.{List, ◌++◌}
use native.Mathlib.Numerals.{add-one}
use native.Mathlib.Omega.{arith}
use lib.Dec.{ltb}
use lib.ListN.{length, set, take, replicate}
use lib.Seq.{take-suc-set, take_all}
use borrow.Author.Tests.{lt-ltb, le-ltb}
use Rattle.searches.specs.Indexed.{every}
use Rattle.searches.proofs.Indexed.{length_every, every_at, filled_is, every_more}
use Rattle.table.specs.WellFormed.{task_of}
use Rattle.equations.specs.View.{own_settings}

-- the setting that the bytes name for the task at place i
abbrev pub setting_of : List ℕ → ℕ → ℕ
setting_of s i = (task_of s i).setting

-- entries that are named, and zeros after them, by place
pub settings_are : (s : List ℕ) (n : ℕ) → n ≤ 32 → every (λ (i : ℕ). (task_of s i).setting) n 0 ++ replicate (32 - n) 0 ≡ own_settings s n
settings_are s n l =
    sym (filled_is (λ i. (task_of s i).setting) 0 32 n (own_settings s n) l (length_every own 32 0)
    (λ i p. every_at own 32 i 0 (omega arith) ∙ rw (lt-ltb i n p))
    (λ i p q. every_at own 32 i 0 q ∙ rw (le-ltb i n p)))
  where
    own : ℕ → ℕ
    own i = cond (ltb i n) (task_of s i).setting 0

-- one more value from the front
pub front_next : (f : ℕ → ℕ) (v : List ℕ) (i x : ℕ) → i < length v → take i v ≡ every f i 0 → x ≡ f i → take (i + 1) (set v i x) ≡ every f (i + 1) 0
front_next f v i x l h e = rw (every_more f i, ← h, ← e, add-one) (take-suc-set v i x l)

-- all of them
pub front_all : (f : ℕ → ℕ) (v : List ℕ) (i n : ℕ) → length v ≡ n → i ≡ n → take i v ≡ every f i 0 → v ≡ every f n 0
front_all f v i n l e h = sym (take_all i v (omega arith)) ∙ h ∙ ap (λ (k : ℕ). every f k 0) e
