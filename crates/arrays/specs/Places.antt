-- A place that the code finds or not, seen as the machine's.
use Rattle.std.specs.Prelude.{◌≡◌, refl, ℕ, Option, None, Some}
use Rattle.searches.specs.Searches.{Place, nowhere, at}

-- where the code finds none there is none
abbrev pub place_of : Option ℕ → Place
place_of None = nowhere
place_of (Some i) = at i

-- the way back
abbrev pub found_of : Place → Option ℕ
found_of nowhere = None
found_of (at i) = Some i

-- nothing is lost
pub place_back : (o : Option ℕ) → found_of (place_of o) ≡ o
place_back None = refl
place_back (Some i) = refl
