-- `math::elimination::clear_below` meets its contract. Assumes nothing.
-- Invariant: eliminating column c from the rows that are left gives what eliminating it from all of them gave.
use Rattle.std.proofs.Common.{◌≡◌, ◌-◌, ◌+◌}
use Rattle.math.specs.Elimination.{sys, clear_on}
use Rattle.math.proofs.elimination.clear_below.Given as goal

abbrev pub invariant-loop-r : goal.invariant-loop-r
invariant-loop-r l =
    clear_on l.n l.c l.d (l.n - l.r) l.r (sys l.a l.b) ≡ clear_on l.n l.c l.d (l.n - (l.c + 1)) (l.c + 1) (sys l.initial.a l.initial.b)
