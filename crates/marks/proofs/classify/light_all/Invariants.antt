-- `light_all` walks the positions. Invariant: `Lighting`, the window's part of the gathered lumas and the marks written so far. Assumes
-- nothing.
use Rattle.marks.proofs.Windows.{Lighting}
use Rattle.marks.proofs.classify.light_all.Given as goal

abbrev pub invariant-loop-p : goal.invariant-loop-p
invariant-loop-p l = Lighting l.lumas l.marks l.lo l.hi l.p
