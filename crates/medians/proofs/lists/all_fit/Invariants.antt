-- `medians::lists::all_fit` meets its contract.
-- Invariant: what was seen and what is to come together say whether all are usable. Assumes nothing.
use Rattle.std.proofs.Common.{◌≡◌, ◌&&◌, drop}
use Rattle.medians.specs.Median.{all_usable}
use Rattle.medians.proofs.lists.all_fit.Given as goal

abbrev pub invariant-loop-x : goal.invariant-loop-x
invariant-loop-x l = (l.ok && all_usable (drop l.x-index l.v)) ≡ all_usable l.v
