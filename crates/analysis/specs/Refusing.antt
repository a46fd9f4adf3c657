-- The number of a refusal, if there is one.
use Rattle.std.specs.Prelude.{ℕ, Option, Some, None}
use Rattle.table.specs.declared.Refusal.{Refusal}
use Rattle.table.specs.Replies.{why_number}

-- 0 where nothing is refused
abbrev pub refusal_number : Option Refusal → ℕ
refusal_number None = 0
refusal_number (Some refusal) = why_number refusal.why
