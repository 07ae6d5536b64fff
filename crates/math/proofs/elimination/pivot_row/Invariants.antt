-- `math::elimination::pivot_row` meets its contract.
-- Invariant: the greatest of p and the rows that are left is the pivot, and p is a row. Assumes nothing.
use Rattle.std.proofs.Common.{◌≡◌, ◌<◌, ◌-◌}
use Rattle.math.specs.Elimination.{pivot_on, pivot}
use Rattle.math.proofs.elimination.pivot_row.Given as goal

abbrev pub invariant-loop-r : goal.invariant-loop-r
invariant-loop-r l = (l.p < l.n) × (pivot_on l.a l.n l.c (l.n - l.r) l.r l.p ≡ pivot l.a l.n l.c)
