-- What is left of `notation::refused::Refused::use_reason`.
use native.Mathlib.Omega.{arith}
use Rattle.table.proofs.Laws.{place_most}
use Rattle.notation.proofs.refused.Refused.use_reason.Goals as goal

pub overflow_mul-user : goal.overflow_mul-user
overflow_mul-user c = omega (arith, place_most _ _ _ _ _ c.place_of-user.ensures)

pub overflow_add-user : goal.overflow_add-user
overflow_add-user c = omega (arith, place_most _ _ _ _ _ c.place_of-user.ensures)
