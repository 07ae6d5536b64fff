-- The first k places of both lists are drawn. Assumes nothing.
use mathlib.Core.Path.{◌≡◌}
use Rattle.laws.specs.Fold.{written}
use Rattle.laws.specs.Plane.{plane, rowwise}
use Rattle.levels.specs.Level.{cells, dark, light}
use Rattle.levels.proofs.cells.level_cells.Given as goal

abbrev pub invariant-loop-k : goal.invariant-loop-k
invariant-loop-k l =
    (l.darks ≡ written l.k (rowwise (cells l.w) (dark (plane l.w l.s) l.w l.h)) l.initial.darks)
    × (l.lights ≡ written l.k (rowwise (cells l.w) (light (plane l.w l.s) l.w l.h)) l.initial.lights)
