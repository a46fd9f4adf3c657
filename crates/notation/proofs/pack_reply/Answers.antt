-- What is left of `notation::pack_reply`.
use mathlib.Core.Path.{refl}
use Rattle.notation.proofs.Packs.{reply_packed, reply_faulty}
use Rattle.notation.proofs.Showings.{fitted_put}
use Rattle.notation.proofs.pack_reply.Goals as goal

pub returns-in-Ok : goal.returns-in-Ok
returns-in-Ok c =
    let test = c.if-out-lt8192 in
    let pack = c.pack in
    let both = fitted_put 8192 c.args.out.now _ _ _ _ test.false refl
    (reply_packed c.args.text.now c.args.out.now _ _ test.false (pack.ensures.value, pack.ensures.out_after) _ c.in-Ok.is) in
    record { put = both.0; prefix_len = both.1 }

pub returns-in-Err-clause-put : goal.returns-in-Err-clause-put
returns-in-Err-clause-put c =
    let pack = c.pack in
    let line = c.fault_line in
    reply_faulty c.args.text.now c.args.out.now _ _ c.if-out-lt8192.false (pack.ensures.value, pack.ensures.out_after) _ _ _ c.in-Err.is line.ensures.put
