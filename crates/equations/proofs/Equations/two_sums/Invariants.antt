-- The loop of `equations::Equations::two_sums`.
use Rattle.equations.specs.Picking.{lengths_in, times_in}
use Rattle.equations.proofs.Summed.{Summing}
use Rattle.equations.proofs.Equations.two_sums.Given as goal

abbrev pub invariant-loop-word : goal.invariant-loop-word
invariant-loop-word l =
    Summing (lengths_in l.kept.words) (times_in l.self.table.bytes.now l.vector l.kept.words l.t) l.x l.word-index l.tally
