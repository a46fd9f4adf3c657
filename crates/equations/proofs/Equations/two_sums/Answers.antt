-- What is left of `equations::Equations::two_sums`.
use Prim.Native.Nat.{ℕ, ◌/◌, ◌≤◌}
use mathlib.Core.Path.{ap, ◌∙◌}
use lib.ListN.{length}
use lib.Seq.{length-take-le}
use native.Mathlib.Omega.{arith}
use Rattle.equations.specs.Picking.{times_of, lengths_in, times_in}
use Rattle.equations.proofs.Summed.{summing_start, summing_small, summing_next, summing_end}
use Rattle.equations.proofs.Front.{item_is}
use Rattle.equations.proofs.Equations.two_sums.Goals as goal
use Rattle.equations.proofs.Equations.two_sums.Goals.{else-loop-word-test, then-loop-word-test+then-x-tally}

pub loop-word-init : goal.loop-word-init
loop-word-init c =
    let K = c.args.kept.now in
    let g = c.requires in
    summing_start (lengths_in K.words) (times_in c.args.self.now.table.bytes.now c.args.vector.now K.words c.args.t) c.from-x.result K.count
    (λ i k p q. omega (arith, g.falls i k p q)) g.short

pub times_of-requires : goal.times_of-requires
times_of-requires c =
    let K = c.args.kept.now in
    let few : K.count ≤ length K.words = omega (arith, c.requires.few) in
    let at = item_is K.words K.count c.loop-word.word-index c.word-item.result few c.word-item.is c.loop-word-test.true in
    rw at.1 (c.requires.timed c.loop-word.word-index at.0)

pub take-tally-requires : goal.take-tally-requires
take-tally-requires c =
    let K = c.args.kept.now in
    let g = c.requires in
    let few : K.count ≤ length K.words = omega (arith, c.requires.few) in
    let at = item_is K.words K.count c.loop-word.word-index c.word-item.result few c.word-item.is c.loop-word-test.true in
    summing_small (lengths_in K.words) (times_in c.args.self.now.table.bytes.now c.args.vector.now K.words c.args.t) c.from-x.result K.count
    (λ i k p q. omega (arith, g.falls i k p q)) g.short c.loop-word.word-index c.loop-word.tally c.loop-word.invariant _
    (omega (arith, c.from-x.ensures, g.sleeps)) c.if-x-tally.false c.times_of.ensures.1
    (rw (c.length.ensures, at.1) (g.short c.loop-word.word-index at.0))

pub loop-word-preserved : goal.loop-word-preserved
loop-word-preserved c =
    let K = c.args.kept.now in
    let g = c.requires in
    let T = c.args.self.now.table in
    let few : K.count ≤ length K.words = omega (arith, c.requires.few) in
    let at = item_is K.words K.count c.loop-word.word-index c.word-item.result few c.word-item.is c.loop-word-test.true in
    rw c.take-tally.ensures (summing_next (lengths_in K.words) (times_in T.bytes.now c.args.vector.now K.words c.args.t) c.from-x.result K.count
    (λ i k p q. omega (arith, g.falls i k p q)) g.short c.loop-word.word-index c.loop-word.tally c.loop-word.invariant _
    at.0 c.if-x-tally.false (c.length.ensures ∙ ap (λ (w : ℕ). w / 65536) at.1)
    (c.times_of.ensures.0 ∙ ap (times_of T.bytes.now c.args.vector.now c.args.t) at.1))

pub returns : goal.returns
returns c =
    let K = c.args.kept.now in
    let g = c.requires in
    let times = times_in c.args.self.now.table.bytes.now c.args.vector.now K.words c.args.t in
    let long = length-take-le K.count K.words (omega (arith, g.few)) in
    c.sums.ensures ∙ rw (← c.from-x.ensures) (elim c.loop-word-test.branch [
      | else-loop-word-test w ↦ summing_end (lengths_in K.words) times c.from-x.result K.count (λ i k p q. omega (arith, g.falls i k p q)) g.short
          c.loop-word.word-index c.loop-word.tally c.loop-word.invariant (omega arith) (λ l. absurd (omega arith))
      | then-loop-word-test+then-x-tally w ↦ summing_end (lengths_in K.words) times c.from-x.result K.count (λ i k p q. omega (arith, g.falls i k p q)) g.short
          c.loop-word.word-index c.loop-word.tally c.loop-word.invariant (omega arith) (λ l. w.if-x-tally.true)
    ])
