-- `fit::line::scatter_about` meets its contract. The invariant: the scatter of what is left, added to that so far, is the scatter of all.
-- Assumes nothing.
use mathlib.Core.Path.{◌≡◌}
use Prim.Native.Nat.{◌-◌}
use Rattle.fit.specs.Line.{scatter_on, scatter_of}
use Rattle.fit.proofs.line.scatter_about.Given as goal

abbrev pub invariant-loop-k : goal.invariant-loop-k
invariant-loop-k l = scatter_on l.s l.m (l.n - l.k) l.k l.t ≡ scatter_of l.s l.m
