-- The line of a refused table.
use Rattle.std.specs.Prelude.{ℕ, List, ◌++◌}
use Rattle.table.specs.declared.Refusal.{Refusal}
use Rattle.table.specs.Replies.{why_number}
use Rattle.words.specs.Text.{text, labelled, newline}

-- a refusal by its number, with its place
abbrev pub refused_line : ℕ → ℕ → List ℕ
refused_line number place = labelled (text "refused ") number ++ (labelled (text " at ") place ++ newline)

-- a refusal
abbrev pub refusal_line : Refusal → List ℕ
refusal_line f = refused_line (why_number f.why) f.place
