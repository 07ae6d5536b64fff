-- `medians::lists::copy` meets its contract.
-- Invariant: the first i places are copied. Assumes nothing.
use Rattle.std.proofs.Common.{◌≡◌, ℕ, ◌<◌}
use Rattle.math.specs.Lists.{number_at}
use Rattle.medians.proofs.lists.copy.Given as goal

abbrev pub invariant-loop-i : goal.invariant-loop-i
invariant-loop-i l = (x : ℕ) → x < l.i → number_at l.to x ≡ number_at l.from x
