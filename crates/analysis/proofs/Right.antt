-- What the analysis of an accepted table is worth: its vector is the largest that agrees with itself, and each answer is right under it.
use Prim.Native.Nat.{ℕ, ◌<◌}
use Rattle.std.specs.Prelude.{Ok}
use mathlib.Core.Path.{◌≡◌}
use mathlib.Core.List.{List}
use Rattle.table.specs.declared.Shape.{Shape}
use Rattle.table.specs.Reading.{read_table}
use Rattle.table.proofs.Accepted.{well_formed}
use Rattle.rounds.specs.Answer.{Right, value}
use Rattle.rounds.specs.System.{size, deadline, Final}
use Rattle.rounds.proofs.SystemLaws.{agrees_within}
use Rattle.rounds.specs.Vector.{at, ◌⊑◌}
use Rattle.rounds.specs.Rounds.{analysis, answer}
use Rattle.rounds.proofs.Theorems.{analysis_final, answer_right, answer_value_lem}
use Rattle.equations.specs.View.{own_settings}
use Rattle.analysis.specs.Analysing.{own_system}
use Rattle.equations.proofs.Accepted.{accepted_lawful}
use Rattle.analysis.proofs.Table.{table_size}

module _ (s : List ℕ) (h : Shape) (e : read_table s ≡ Ok h) where
  -- the largest vector in which each value is the bound under it, or the deadline where there is none
  pub largest_vector : Final (own_system s h) (analysis (own_system s h)).vector
  largest_vector = analysis_final (own_system s h) (accepted_lawful s h (own_settings s h.tasks) e)

  -- no value is above its deadline
  pub within_deadlines : (analysis (own_system s h)).vector ⊑ (own_system s h).deadlines
  within_deadlines = agrees_within (own_system s h) (analysis (own_system s h)).vector largest_vector.agrees

  module _ (i : ℕ) (l : i < h.tasks) where
    placed : i < size (own_system s h)
    placed = rw (table_size s h (own_settings s h.tasks) (well_formed s h e)) l

    -- each bound is the least solution of its equation under that vector, and none says that no solution lies within the deadline
    pub each_right : Right ((own_system s h).side i (analysis (own_system s h)).vector) (deadline (own_system s h) i) (answer (own_system s h) i)
    each_right = answer_right (own_system s h) (accepted_lawful s h (own_settings s h.tasks) e) i placed

    -- and its value in the vector is the bound, or the deadline
    pub each_value : at (analysis (own_system s h)).vector i ≡ value (deadline (own_system s h) i) (answer (own_system s h) i)
    each_value = answer_value_lem (own_system s h) (accepted_lawful s h (own_settings s h.tasks) e) i placed
