-- `doubled::refusals::coordinates` meets its contract. The loop's invariant: `Past`. Assumes nothing.
use Prim.Native.Nat.{◌≤◌}
use lib.ListN.{length}
use Rattle.doubled.proofs.Checks.{Past}
use Rattle.doubled.proofs.refusals.coordinates.Given as goal

abbrev pub invariant-loop-n : goal.invariant-loop-n
invariant-loop-n l = Past l.p l.n-index l.past × (length l.p ≤ 32768)
