-- `paint_all` goes through the positions. Invariant: the pixels show the square with the marks below p.
-- Assumes nothing.
use mathlib.Core.Path.{◌≡◌}
use lib.ListN.{length}
use Rattle.proof_ring.specs.Inner.{Shows, square_below}
use Rattle.proof_ring.proofs.paint.paint_all.Given as goal

abbrev pub invariant-loop-p : goal.invariant-loop-p
invariant-loop-p l =
    (length l.pixels ≡ length l.initial.pixels) × Shows l.plan (square_below l.plan.version l.p) l.pixels
