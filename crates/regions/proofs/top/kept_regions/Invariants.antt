-- The first i regions are listed and the places past them hold none (Listing). Assumes nothing.
use lib.ListN.{length}
use Rattle.regions.proofs.Listing.{Listing}
use Rattle.regions.proofs.top.kept_regions.Given as goal

abbrev pub invariant-loop-i : goal.invariant-loop-i
invariant-loop-i l = Listing l.labels (length l.sizes) l.w l.h l.width l.height l.i l.list
