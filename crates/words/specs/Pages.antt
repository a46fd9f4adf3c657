-- What a function does to a page.
use Rattle.std.specs.Prelude.{ℕ, List, ◌≡◌, length, take, drop}
use Rattle.words.specs.declared.page.Page.{Page}
use Rattle.words.specs.Sheet.{Sheet, onward}

-- what lies on a page: what was put stands before its place, the rest from there on
unfoldable pub sheet : Page → Sheet
sheet p = record { put = take p.at p.out.now; rest = drop p.at p.out.now; name = p.out.ghost_name }

-- how many bytes there is room for
abbrev pub room : Page → ℕ
room p = length (sheet p).rest

-- a text was put, and nothing else is changed
abbrev pub Puts : Page → List ℕ → Page → Type 0
Puts before t after = sheet after ≡ onward (sheet before) t
