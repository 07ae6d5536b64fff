-- `math::elimination::forward` meets its contract: column by column.
-- Invariant: eliminating the columns that are left gives the result. Assumes nothing.
use Rattle.std.proofs.Common.{◌≡◌, ◌-◌}
use Rattle.math.specs.Elimination.{sys, forward_on}
use Rattle.math.proofs.elimination.forward.Given as goal

abbrev pub invariant-loop-c : goal.invariant-loop-c
invariant-loop-c l = forward_on l.n (l.n - l.c) l.c (sys l.a l.b) ≡ forward_on l.n l.n 0 (sys l.initial.a l.initial.b)
