-- The loop of `arrays::sections::Sections::slot_of`.
use Rattle.std.proofs.Common.{◌≡◌}
use Rattle.searches.specs.Searches.{nowhere, first}
use Rattle.arrays.specs.View.{is_section}
use Rattle.arrays.proofs.sections.Sections.slot_of.Given as goal

abbrev pub invariant-loop-k : goal.invariant-loop-k
invariant-loop-k l = first (is_section l.self.places l.self.resources l.place l.resource) l.k ≡ nowhere
