-- The lines that are printed.
use Rattle.std.specs.Prelude.{List, ◌++◌, ℕ, None, Some, Option, codes}
use Rattle.std.specs.Fmt.{decimal}
use Rattle.table.specs.declared.Refusal.{Refusal}
use Rattle.table.specs.Replies.{why_number}
use Rattle.arrays.specs.declared.Number.{Number}
use Rattle.arrays.specs.Denials.{refusal_number}
use Rattle.scheduler.specs.declared.Reply.{Reply}

-- who runs: a priority and a serial, or nobody
abbrev pub running_text : Option Number → List ℕ
running_text None = codes "idle"
running_text (Some job) = decimal job.priority ++ codes " " ++ decimal job.serial

-- a reply's refusal, 0 where there is none, and who runs
abbrev pub reply_line : Reply → List ℕ
reply_line reply = decimal (refusal_number reply.refusal) ++ codes " " ++ running_text reply.running ++ codes "\n"

-- why setting up is refused and at which place, 0 and 0 where it is not
abbrev pub set_up_line : Option Refusal → List ℕ
set_up_line None = codes "set up 0 at 0\n"
set_up_line (Some refusal) = codes "set up " ++ decimal (why_number refusal.why) ++ codes " at " ++ decimal refusal.place ++ codes "\n"
