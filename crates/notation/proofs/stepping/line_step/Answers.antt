-- What is left of `notation::stepping::line_step`.
use Rattle.notation.proofs.Lines.{line_judgeable, line_ready, line_fault, line_empty, line_judged}
use Rattle.notation.proofs.stepping.line_step.Goals as goal

pub returns-in-Err : goal.returns-in-Err
returns-in-Err c = line_fault _ _ _ _ c.in-Err.misfit _ c.in-Err.ensures c.misfit.ensures

pub returns-in-Ok : goal.returns-in-Ok
returns-in-Ok c = line_empty _ _ _ _ c.in-Ok.taken c.requires.ready c.in-Ok.ensures _ c.if-taken-position.true c.past.ensures.value c.past.ensures.within

pub judge-requires : goal.judge-requires
judge-requires c =
    let taken = c.in-Ok.taken in
    record {
      ready = line_ready _ _ _ _ taken c.requires.ready c.in-Ok.ensures;
      judgeable = line_judgeable _ _ _ _ taken c.requires.ready c.in-Ok.ensures;
    }

pub returns-in-Ok-2 : goal.returns-in-Ok-2
returns-in-Ok-2 c = line_judged _ _ _ _ c.in-Ok.taken c.requires.ready c.in-Ok.ensures _ _ c.if-taken-position.false c.judge.ensures
