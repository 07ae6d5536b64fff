-- `fit::consensus::trials` meets its contract. The invariant: i and j are the places of trial k, and the trials that are left, from the
-- best so far, give the best of all. Assumes nothing.
use mathlib.Core.Path.{◌≡◌}
use Prim.Native.Nat.{◌≤◌, ◌<◌, ◌-◌}
use Rattle.fit.specs.Consensus.{first_at, second_at, trials_on, trials_of}
use Rattle.fit.proofs.consensus.trials.Given as goal

abbrev pub invariant-loop-k : goal.invariant-loop-k
invariant-loop-k l =
    (l.best.count ≤ 16384)
    × (trials_on l.s l.len (96 - l.k) l.k l.best ≡ trials_of l.s l.len)
    × (l.i ≡ first_at l.n l.k)
    × (l.i < l.n)
    × (l.j ≡ second_at l.n l.k)
    × (l.j < l.n)
