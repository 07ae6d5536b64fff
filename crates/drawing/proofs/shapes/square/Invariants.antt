-- `drawing::shapes::square` meets its contract. The loop's invariant: the plane keeps its length.
-- Assumes nothing.
use lib.ListN.{length}
use mathlib.Core.Path.{◌≡◌}
use Rattle.drawing.proofs.shapes.square.Given as goal

abbrev pub invariant-loop-j : goal.invariant-loop-j
invariant-loop-j l = length l.plane ≡ length l.initial.plane
