-- `drawing::shapes::closed` meets its contract. The loop's invariant: the plane keeps its length.
-- Assumes nothing.
use lib.ListN.{length}
use mathlib.Core.Path.{◌≡◌}
use Rattle.drawing.proofs.shapes.closed.Given as goal

abbrev pub invariant-loop-i : goal.invariant-loop-i
invariant-loop-i l = length l.plane ≡ length l.initial.plane
