-- The bins hold the counts of the first j rows of the part. Assumes nothing.
use Rattle.laws.specs.Plane.{plane}
use Rattle.levels.specs.Inner.{Counted}
use Rattle.levels.specs.Level.{count_rows}
use Rattle.levels.proofs.cells.count_part.Given as goal

abbrev pub invariant-loop-j : goal.invariant-loop-j
invariant-loop-j l = Counted (count_rows (plane l.w l.s) l.x0 l.y0 l.lx l.j) l.bins
