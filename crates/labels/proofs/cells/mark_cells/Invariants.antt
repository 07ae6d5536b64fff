-- The first k cells are marked, and k is in column x and row y (Drawing). Assumes nothing.
use Rattle.labels.specs.Cells.{cells8}
use Rattle.labels.specs.Inner.{cell_mark_at}
use Rattle.laws.proofs.Drawing.{Drawing}
use Rattle.laws.specs.Plane.{plane}
use Rattle.labels.proofs.cells.mark_cells.Given as goal

abbrev pub invariant-loop-k : goal.invariant-loop-k
invariant-loop-k l = Drawing (cells8 l.w) (cells8 l.h) (cell_mark_at (plane l.w l.s) l.w l.h) l.initial.labels l.labels l.k l.x l.y
