-- `drawing::dots` meets its contract. The loop's invariant: the first k points are drawn.
-- Assumes nothing.
use Rattle.drawing.proofs.Dotted.{Dotting}
use Rattle.drawing.proofs.dots.Given as goal

abbrev pub invariant-loop-k : goal.invariant-loop-k
invariant-loop-k l = Dotting l.w l.h l.a l.b l.colour l.initial.plane l.plane l.k
