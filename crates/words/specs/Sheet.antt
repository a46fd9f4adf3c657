-- What lies on a page: what was put, what stands after it, and the reference to the buffer.
use Rattle.std.specs.Prelude.{ℕ, List, [], ◌++◌, length, drop}
use Rattle.std.specs.Borrow.{GName}

-- what was put so far, what stands after it, and the name of the reference to the buffer
pub record Sheet : Type 0 where
  pub put : List ℕ
  pub rest : List ℕ
  pub name : GName

-- a buffer in which nothing was put
abbrev pub blank : List ℕ → GName → Sheet
blank o name = record { put = []; rest = o; name = name }

-- a text put after what was put: it stands in place of as many bytes of the rest
unfoldable pub onward : Sheet → List ℕ → Sheet
onward s t = record { put = s.put ++ t; rest = drop (length t) s.rest; name = s.name }
