-- How many bytes an answer of the writer has written: none where it refused.
use Rattle.std.specs.Prelude.{ℕ, Result, Ok, Err}

abbrev pub count_of : {R : Type 0} → Result ℕ R → ℕ
count_of (Ok n) = n
count_of (Err refusal) = 0
