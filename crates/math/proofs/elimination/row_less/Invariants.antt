-- `math::elimination::row_less` meets its contract.
-- Invariant: doing the places that are left gives the result. Assumes nothing.
use Rattle.std.proofs.Common.{◌≡◌, ◌-◌}
use Rattle.math.specs.Elimination.{row_less}
use Rattle.math.proofs.elimination.row_less.Given as goal

abbrev pub invariant-loop-k : goal.invariant-loop-k
invariant-loop-k l = row_less l.r l.c l.f (l.n - l.k) l.k l.a ≡ row_less l.r l.c l.f (l.n - l.k0) l.k0 l.initial.a
