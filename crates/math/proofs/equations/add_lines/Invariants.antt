-- `math::equations::add_lines` meets its contract.
-- Invariant: adding to the rows that are left gives the result. Assumes nothing.
use Rattle.std.proofs.Common.{◌≡◌, ◌-◌}
use Rattle.math.specs.Elimination.{sys}
use Rattle.math.specs.Equations.{add_lines}
use Rattle.math.proofs.equations.add_lines.Given as goal

abbrev pub invariant-loop-i : goal.invariant-loop-i
invariant-loop-i l =
    add_lines l.basis l.w l.t l.n (l.n - l.i) l.i (sys l.m l.v) ≡ add_lines l.basis l.w l.t l.n l.n 0 (sys l.initial.m l.initial.v)
