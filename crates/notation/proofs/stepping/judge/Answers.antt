-- What is left of `notation::stepping::judge`.
use Rattle.notation.proofs.Steps.{judge_on}
use Rattle.notation.proofs.stepping.judge.Goals as goal

pub returns-in-Ok : goal.returns-in-Ok
returns-in-Ok c = judge_on _ _ _ _ c.requires.ready c.requires.judgeable _ _ _ c.read.ensures c.in-Ok.is c.past.ensures.value c.past.ensures.within
