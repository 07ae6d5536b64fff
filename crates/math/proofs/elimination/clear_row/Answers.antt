-- `math::elimination::clear_row` meets its contract: a factor of 0 leaves the row, another one eliminates. Assumes nothing.
use Rattle.math.proofs.Eliminations.{clear_none, clear-some}
use Rattle.math.proofs.elimination.clear_row.Goals as goal

pub returns-then-f : goal.returns-then-f
returns-then-f c = clear_none _ _ _ _ _ _ c.if-f.true

pub returns : goal.returns
returns c = clear-some _ _ _ _ _ _ _ c.if-f.false c.row_less.ensures
