-- The first i counts are written, each from four reads. Assumes nothing.
use mathlib.Core.Path.{◌≡◌}
use lib.ListN.{length}
use Rattle.laws.specs.Fold.{written}
use Rattle.darkness.specs.Inner.{reads_of}
use Rattle.darkness.proofs.counts.count_all.Given as goal

abbrev pub invariant-loop-i : goal.invariant-loop-i
invariant-loop-i l =
    (length l.counts ≡ length l.initial.counts) × (l.counts ≡ written l.i (reads_of l.table l.w l.boxes) l.initial.counts)
