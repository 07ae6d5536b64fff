-- The rows of the window before row g are visited (Rows). Assumes nothing.
use Rattle.labels.proofs.Loops.{Rows}
use Rattle.labels.proofs.groups.visit_near.Given as goal

abbrev pub invariant-loop-g : goal.invariant-loop-g
invariant-loop-g l =
    Rows l.w l.h l.i l.v l.x0 l.x1 l.y0 l.y1 l.initial.labels l.initial.stack l.depth l.labels l.stack l.k l.g
