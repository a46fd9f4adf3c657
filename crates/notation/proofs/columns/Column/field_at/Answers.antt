-- What is left of `notation::columns::Column::field_at`.
use Rattle.notation.specs.Columns.{field_at}
use Rattle.notation.proofs.columns.Column.field_at.Goals as goal

pub returns-then-is_wide : goal.returns-then-is_wide
unfolding field_at
returns-then-is_wide c = rw (← c.is_wide.ensures, c.if-is_wide.true, ← c.offset.ensures.0) c.word_at.ensures

pub returns-else-is_wide : goal.returns-else-is_wide
unfolding field_at
returns-else-is_wide c = rw (← c.is_wide.ensures, c.if-is_wide.false, ← c.offset.ensures.0, ← c.byte_at.ensures) c.from.ensures
