-- The loop of `words::page::Page::printables`.
use Rattle.std.proofs.Common.{take}
use Rattle.words.specs.Finding.{printables}
use Rattle.words.specs.Pages.{Puts}
use Rattle.words.proofs.page.Page.printables.Given as goal

abbrev pub invariant-loop-byte : goal.invariant-loop-byte
invariant-loop-byte l = Puts l.initial.self (printables (take l.byte-index l.word)) l.self
