-- The loop of `arrays::entries::Entries::wake`.
use Rattle.std.proofs.Common.{◌≡◌}
use Rattle.arrays.specs.Stores.{Woken}
use Rattle.arrays.proofs.entries.Entries.wake.Given as goal

abbrev pub invariant-loop-i : goal.invariant-loop-i
invariant-loop-i l = (l.self ≡ record l.initial.self { states = l.self.states }) × Woken l.initial.self.states l.tasks.priorities l.ceiling l.i l.self.states
