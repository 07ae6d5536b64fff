-- The first k cells of next are drawn and bytes, k is in column x and row y, and left is what prev has to the west of it; the measure is
-- the cells left. Assumes nothing.
use mathlib.Core.Path.{◌≡◌}
use Rattle.laws.proofs.Drawing.{Drawing}
use Rattle.laws.specs.Plane.{plane}
use Rattle.levels.specs.Level.{fill_at, west}
use Rattle.levels.specs.Inner.{Bytes}
use Rattle.levels.proofs.passes.fill_pass.Given as goal

abbrev pub invariant-loop-k : goal.invariant-loop-k
invariant-loop-k l =
    (Drawing l.w l.h (fill_at l.w l.h (plane l.w l.prev)) l.initial.next l.next l.k l.x l.y) × Bytes l.k l.next × (l.left ≡ west (plane l.w l.prev) l.x l.y)
