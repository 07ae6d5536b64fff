-- `math::elimination::swap_rows` meets its contract.
-- Invariant: exchanging the places that are left gives the result. Assumes nothing.
use Rattle.std.proofs.Common.{◌≡◌, ◌-◌}
use Rattle.math.specs.Elimination.{swap_on}
use Rattle.math.proofs.elimination.swap_rows.Given as goal

abbrev pub invariant-loop-k : goal.invariant-loop-k
invariant-loop-k l = swap_on l.i l.j (l.n - l.k) l.k l.a ≡ swap_on l.i l.j l.n 0 l.initial.a
