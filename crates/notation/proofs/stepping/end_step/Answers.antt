-- What is left of `notation::stepping::end_step`.
use Rattle.notation.proofs.Steps.{end_accepted, end_refused}
use Rattle.notation.proofs.stepping.end_step.Goals as goal

pub returns-in-Ok : goal.returns-in-Ok
returns-in-Ok c = end_accepted _ _ _ _ c.requires.0 c.requires.1 c.read.ensures c.in-Ok.is

pub returns-in-Err : goal.returns-in-Err
returns-in-Err c =
    let read = c.read in
    end_refused _ _ _ _ _ c.requires.0 c.requires.1 read.ensures c.in-Err.is c.whole.ensures
