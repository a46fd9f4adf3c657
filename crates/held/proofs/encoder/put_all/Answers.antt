-- What is left of `held::encoder::put_all`.
use Prim.Native.Nat.{ℕ, ◌+◌, ◌*◌, ◌≤◌}
use lib.ListN.{length, take, get_or}
use mathlib.Core.List.{append-nil}
use mathlib.Core.Path.{◌≡◌, ap, sym, ◌∙◌}
use native.Mathlib.Nat.{mul-le-mul_left}
use native.Mathlib.Omega.{arith}
use Rattle.std.proofs.lemmas.List.{get_or_read}
use Rattle.searches.specs.Indexed.{every}
use Rattle.held.specs.Writing.{all}
use Rattle.held.proofs.Puts.{put_next}
use Rattle.held.proofs.encoder.put_all.Goals as goal

pub loop-i-init : goal.loop-i-init
unfolding every all
loop-i-init g c =
    let z : c.args.start + g.R.Record.SIZE * 0 ≡ c.args.start = omega arith in
    ap (λ (n : ℕ). take n c.args.buffer.now) z ∙ sym (append-nil (take c.args.start c.args.buffer.now))

pub loop-i-preserved : goal.loop-i-preserved
loop-i-preserved g c =
    let m = g.R.Record in
    let xs = c.args.records.now in
    let i = c.loop-i.i in
    let x = get_or_read xs i _ c.loop-i-test.true c.index-records-i.is m.empty in
    let most : m.SIZE * (i + 1) ≤ m.SIZE * length xs = mul-le-mul_left m.SIZE (omega arith) in
    let room : c.args.start + m.SIZE * i + m.SIZE ≤ length c.loop-i.buffer = omega arith in
    let next =
    put_next m.record_bytes m.SIZE g.met.R.Record.long (λ (k : ℕ). get_or xs k m.empty) (λ (k : ℕ). c.args.start + m.SIZE * k) (λ j. omega arith)
    (take c.args.start c.args.buffer.now) c.loop-i.buffer i room c.loop-i.invariant in
    rw (c.put.ensures, c.SIZE.ensures, x) next
