-- `fit::consensus::agree` meets its contract. The invariant: the count is at most the points passed, and those of what is left, added to
-- it, are those of all. Assumes nothing.
use mathlib.Core.Path.{◌≡◌}
use Prim.Native.Nat.{◌≤◌, ◌-◌}
use Rattle.fit.specs.Consensus.{agree_on, agree_of}
use Rattle.fit.proofs.consensus.agree.Given as goal

abbrev pub invariant-loop-k : goal.invariant-loop-k
invariant-loop-k l =
    (l.m ≤ l.k) × (l.k ≤ l.n) × (agree_on l.s l.px l.py l.fx l.fy (l.n - l.k) l.k l.m ≡ agree_of l.s l.px l.py l.fx l.fy)
