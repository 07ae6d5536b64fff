-- `fit::line::sums` meets its contract. The invariant: the sums of what is left, added to those so far, are the sums of all. Assumes
-- nothing.
use mathlib.Core.Path.{◌≡◌}
use Prim.Native.Nat.{◌≤◌, ◌-◌}
use Rattle.fit.specs.Line.{sums_on}
use Rattle.fit.proofs.line.sums.Given as goal

abbrev pub invariant-loop-k : goal.invariant-loop-k
invariant-loop-k l = (1 ≤ l.n) × (sums_on l.s (l.n - l.k) l.k l.t ≡ sums_on l.s (l.n - 1) 1 l.initial.t)
