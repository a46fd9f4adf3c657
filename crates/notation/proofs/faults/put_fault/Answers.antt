-- What is left of `notation::faults::put_fault`.
use native.Mathlib.Omega.{arith}
use Rattle.words.specs.Pages.{sheet}
use Rattle.words.specs.Text.{text, labelled}
use Rattle.words.proofs.Words.{labelled_few}
use Rattle.notation.specs.Numbered.{fault_of}
use Rattle.notation.specs.Faults.{fault_text}
use Rattle.notation.proofs.Sizes.{fault_most}
use Rattle.notation.proofs.Showings.{room_left}
use Rattle.notation.proofs.faults.put_fault.Goals as goal

pub text-requires-2 : goal.text-requires-2
text-requires-2 c =
    let fault = fault_of c.args.fault in
    let first = room_left (sheet c.args.page.now) (sheet c.number.new.self) (labelled (text "line ") fault.line) c.number.ensures in
    let second = room_left (sheet c.number.new.self) (sheet c.text.new.self) (text ": ") c.text.ensures in
    let third = room_left (sheet c.text.new.self) (sheet c.put_cause.new.page) (fault_text c.args.text.now fault) c.put_cause.ensures in
    omega (arith, c.requires, first, second, third, labelled_few (text "line ") fault.line, fault_most c.args.text.now fault)
