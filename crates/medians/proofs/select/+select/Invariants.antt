-- `medians::select::select` meets its contract: by recursion on the part that holds the place k.
-- Measure: the length of the list, which is shorter in either part. Assumes nothing.
use lib.ListN.{length}
use Rattle.medians.proofs.select.+select.Given as goal

abbrev pub decreases-select : goal.decreases-select
decreases-select l = length l.v.now
