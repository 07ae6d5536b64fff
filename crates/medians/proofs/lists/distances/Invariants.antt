-- `medians::lists::distances` meets its contract.
-- Invariant: the first i places hold the distances. Assumes nothing.
use Rattle.std.proofs.Common.{◌≡◌, ℕ, ◌<◌}
use Rattle.math.specs.Lists.{number_at}
use Rattle.medians.specs.Median.{away}
use Rattle.medians.proofs.lists.distances.Given as goal

abbrev pub invariant-loop-i : goal.invariant-loop-i
invariant-loop-i l = (x : ℕ) → x < l.i → number_at l.to x ≡ away l.c (number_at l.from x)
