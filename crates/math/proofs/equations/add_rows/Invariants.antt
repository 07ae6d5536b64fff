-- `math::equations::add_rows` meets its contract.
-- Invariant: adding the samples that are left gives the result. Assumes nothing.
use Rattle.std.proofs.Common.{◌≡◌, ◌-◌, length}
use Rattle.math.specs.Elimination.{sys}
use Rattle.math.specs.Equations.{add_rows}
use Rattle.math.proofs.equations.add_rows.Given as goal

abbrev pub invariant-loop-r : goal.invariant-loop-r
invariant-loop-r l =
    add_rows l.basis l.targets l.n (length l.targets - l.r) l.r (sys l.m l.v) ≡ add_rows l.basis l.targets l.n (length l.targets) 0 (sys l.initial.m l.initial.v)
