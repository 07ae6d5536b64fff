-- `outline::columns::put_columns` meets its contract. The loop's invariant: the points of the first i columns are stored, and to is the
-- place after them. Assumes nothing.
use Rattle.outline.specs.Inner.{columns_found, Wrote}
use Rattle.outline.proofs.columns.put_columns.Given as goal

abbrev pub invariant-loop-i : goal.invariant-loop-i
invariant-loop-i l = Wrote l.at (columns_found l.run l.down l.up l.y0 l.rows l.x l.i) l.initial.out l.out l.to
