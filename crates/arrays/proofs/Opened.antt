-- The open sections by their arrays: how many, whether each is named, the ceiling of the last, and one removed that isn't there.
use Rattle.std.proofs.Common.{◌≡◌, ℕ, zero, suc, ◌≤◌, Bool, true, false, ◌&&◌, ltb, leb, List, [], ◌∷◌, ◌++◌, length, get_or, sym, Option, None, Some, refl, ap, ◌∙◌, arith, length-append}
use mathlib.Core.Bool.{and-true, and_assoc}
use Rattle.protocol.specs.Tasks.{Table}
use Rattle.searches.specs.Searches.{all}
use Rattle.protocol.specs.State.{Entry, Section}
use Rattle.protocol.specs.Running.{ceiling, top}
use Rattle.protocol.specs.Fit.{used, named, fit}
use Rattle.protocol.specs.Acting.{section}
use Rattle.protocol.proofs.Chain.{top_snoc}
use Rattle.arrays.specs.declared.tasks.Tasks.{Tasks}
use Rattle.arrays.specs.declared.sections.Sections.{Sections}
use Rattle.arrays.specs.View.{tasks_of, sections_by, sections_of, last_open, setting_below}
use Rattle.arrays.specs.Stores.{Removed}

-- as many as are counted
pub sections_length : (places resources : List ℕ) (n : ℕ) → length (sections_by places resources n) ≡ n
unfolding sections_by
sections_length places resources zero = refl
sections_length places resources (suc n) = simp length-append (omega (arith, sections_length places resources n))

-- ---- named

-- a list with one section more
named_snoc : (T : Table) (l : List Section) (s : Section) → named T (l ++ (s ∷ [])) ≡ named T l && (ltb s.place T.size && used T s.resource)
unfolding named
named_snoc T [] s = and-true (ltb s.place T.size && used T s.resource)
named_snoc T (t ∷ l) s =
    rw (named_snoc T l s)
    (sym (and_assoc (ltb t.place T.size && used T t.resource) (named T l) (ltb s.place T.size && used T s.resource)))

-- whether the section in a slot is named
abbrev pub named_at : Table → List ℕ → List ℕ → ℕ → Bool
named_at T places resources k = ltb (get_or places k 0) T.size && used T (get_or resources k 0)

-- all are named where each slot's is
pub named_all : (T : Table) (places resources : List ℕ) (n : ℕ) → named T (sections_by places resources n) ≡ all (named_at T places resources) n
unfolding named sections_by all
named_all T places resources zero = refl
named_all T places resources (suc n) =
    named_snoc T (sections_by places resources n) (section (get_or places n 0) (get_or resources n 0))
    ∙ ap (λ b. b && named_at T places resources n) (named_all T places resources n)

-- whether a state is fit, as the code tests it: the tasks, and then the sections
pub fit_tested : (t : Tasks) (s : Sections) (f : ℕ → Entry) → fit (tasks_of t) (record { entry = f; sections = sections_of s })
    ≡ (leb t.count 32 && all (setting_below (tasks_of t)) t.count)
    && (leb t.count 32 && (leb s.count 16 && named (tasks_of t) (sections_of s)))
unfolding fit
fit_tested t s f =
    rw (sections_length s.places s.resources s.count)
    (join (leb t.count 32) (all (setting_below (tasks_of t)) t.count) (leb s.count 16 && named (tasks_of t) (sections_of s)))
  where
    join : (a b c : Bool) → a && (b && c) ≡ (a && b) && (a && c)
    join true b c = refl
    join false b c = refl

-- ---- the ceiling

-- the ceiling of a resource, 0 of none
abbrev pub ceiling_or : Table → Option ℕ → ℕ
ceiling_or T None = 0
ceiling_or T (Some r) = ceiling T r

-- the ceiling of the last open resource is that of the last section
pub last_ceiling : (T : Table) (places resources : List ℕ) (n : ℕ)
    → ceiling_or T (last_open resources n) ≡ top T 0 (sections_by places resources n)
unfolding top sections_by
last_ceiling T places resources zero = refl
last_ceiling T places resources (suc n) =
    sym (top_snoc T 0 (sections_by places resources n) (section (get_or places n 0) (get_or resources n 0)))

-- ---- removing

-- a slot past them changes nothing
pub removed_none : (a : List ℕ) (k n : ℕ) → n ≤ k → Removed a k n a
removed_none a k n h = record {
  long = refl;
  before = λ j g. refl;
  after = λ j g f. absurd (omega arith);
  last = λ j g e. absurd (omega arith);
  past = λ j g. refl;
}
