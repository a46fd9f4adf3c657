-- The loop of `arrays::sections::Sections::are_fit`.
use Rattle.std.proofs.Common.{◌≡◌, true}
use Rattle.searches.specs.Searches.{all}
use Rattle.arrays.specs.View.{tasks_of}
use Rattle.arrays.proofs.Opened.{named_at}
use Rattle.arrays.proofs.sections.Sections.are_fit.Given as goal

abbrev pub invariant-loop-k : goal.invariant-loop-k
invariant-loop-k l = all (named_at (tasks_of l.tasks) l.self.places l.self.resources) l.k ≡ true
