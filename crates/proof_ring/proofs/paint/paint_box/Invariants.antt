-- `paint_box` stores row by row. Invariant: the first j rows of the box are dark, all else as before.
-- Assumes nothing.
use Rattle.laws.specs.Plane.{plane}
use Rattle.proof_ring.specs.Inner.{Painted, dark_box}
use Rattle.proof_ring.proofs.paint.paint_box.Given as goal

abbrev pub invariant-loop-j : goal.invariant-loop-j
invariant-loop-j l = Painted l.w (dark_box l.x0 l.y0 l.n l.j (plane l.w l.initial.pixels)) l.initial.pixels l.pixels
