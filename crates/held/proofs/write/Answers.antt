-- What is left of `held::write`.
use Prim.Native.Nat.{ℕ}
use lib.ListN.{drop}
use mathlib.Core.List.{List, ◌++◌}
use mathlib.Core.Path.{sym, ap, ◌∙◌}
use native.Mathlib.Omega.{arith}
use Rattle.std.proofs.Common.{Err}
use Rattle.std.proofs.lemmas.Result.{err_from_is_err_and}
use Rattle.held.proofs.Writes.{refused, short, done}
use Rattle.held.proofs.write.Goals as goal

pub returns-in_err-read : goal.returns-in_err-read
returns-in_err-read c =
    let p = err_from_is_err_and c.from_residual.result c.from_residual.ensures.1 in
    let a = refused c.args.table c.args.out.now c.encode-length.new.buffer c.encode-length.result (omega arith) c.encode-length.ensures.1 _
    (sym c.read.ensures ∙ c.in_err-read.was) in
    (rw (p.1, p.2) a.0, a.1)

pub returns-then-out-length : goal.returns-then-out-length
returns-then-out-length c =
    let a = short c.args.table c.args.out.now c.encode-length.new.buffer c.encode-length.result (omega arith) c.encode-length.ensures.1 _
    (sym c.read.ensures ∙ c.in_ok-read.was) c.if-out-length.true in
    (ap Err c.at.ensures ∙ a.0, a.1)

pub returns : goal.returns
returns c =
    done c.args.table c.args.out.now c.encode-length.new.buffer c.encode-length.result (omega arith) c.encode-length.ensures.1 _
    (sym c.read.ensures ∙ c.in_ok-read.was) c.if-out-length.false _ (ap (λ (x : List ℕ). x ++ drop c.encode-length.result c.args.out.now) c.copy_from_slice.ensures.after)
