-- `math::elimination::less_row` meets its contract.
-- Invariant: taking the products that are left gives the result. Assumes nothing.
use Rattle.std.proofs.Common.{◌≡◌, ◌-◌}
use Rattle.math.specs.Elimination.{less_on}
use Rattle.math.proofs.elimination.less_row.Given as goal

abbrev pub invariant-loop-k : goal.invariant-loop-k
invariant-loop-k l = less_on l.a l.x l.w (l.n - l.k) l.k l.s ≡ less_on l.a l.x l.w (l.n - l.k0) l.k0 l.s0
