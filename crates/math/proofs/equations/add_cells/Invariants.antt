-- `math::equations::add_cells` meets its contract.
-- Invariant: adding to the places that are left gives the result. Assumes nothing.
use Rattle.std.proofs.Common.{◌≡◌, ◌-◌}
use Rattle.math.specs.Equations.{add_cells}
use Rattle.math.proofs.equations.add_cells.Given as goal

abbrev pub invariant-loop-j : goal.invariant-loop-j
invariant-loop-j l = add_cells l.basis l.w l.n l.i (l.n - l.j) l.j l.m ≡ add_cells l.basis l.w l.n l.i l.n 0 l.initial.m
