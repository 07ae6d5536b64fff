-- m is the fold of the first j cells of the window. Assumes nothing.
use mathlib.Core.Path.{◌≡◌}
use Rattle.laws.specs.Plane.{plane}
use Rattle.levels.specs.Inner.{column_extreme}
use Rattle.levels.proofs.pool.down_cell.Given as goal

abbrev pub invariant-loop-j : goal.invariant-loop-j
invariant-loop-j l = l.m ≡ column_extreme l.most (plane l.w l.g) l.x l.y0 l.j
