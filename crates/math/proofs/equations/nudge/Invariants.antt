-- `math::equations::nudge` meets its contract.
-- Invariant: adding to the places that are left gives the result. Assumes nothing.
use Rattle.std.proofs.Common.{◌≡◌, ◌-◌}
use Rattle.math.specs.Equations.{nudged}
use Rattle.math.proofs.equations.nudge.Given as goal

abbrev pub invariant-loop-i : goal.invariant-loop-i
invariant-loop-i l = nudged l.n (l.n - l.i) l.i l.m ≡ nudged l.n l.n 0 l.initial.m
