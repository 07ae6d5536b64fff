-- `replay::replay` meets its contract. The loop's invariant: no more answers differ than calls were made. Assumes nothing.
use Prim.Native.Nat.{◌≤◌}
use Rattle.replay.proofs.replay.Given as goal

abbrev pub invariant-loop-calls : goal.invariant-loop-calls
invariant-loop-calls l = l.different ≤ l.calls
