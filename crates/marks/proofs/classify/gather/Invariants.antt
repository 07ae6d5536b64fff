-- `gather` walks the places. Invariant: the first r numbers are the finite lumas at the places below j, and the list is as long as before.
-- Assumes nothing.
use mathlib.Core.Path.{◌≡◌}
use lib.ListN.{length}
use Rattle.marks.specs.Classify.{Gathered}
use Rattle.marks.proofs.classify.gather.Given as goal

abbrev pub invariant-loop-j : goal.invariant-loop-j
invariant-loop-j l = (length l.around ≡ length l.initial.around) × Gathered l.lumas l.j l.r l.around
