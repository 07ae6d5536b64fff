-- `calls_attempt::put_past`: as many words are put as places were gone through, at most 32,770. Assumes nothing.
use mathlib.Core.Path.{◌≡◌}
use Prim.Native.Nat.{◌+◌, ◌≤◌}
use lib.ListN.{length}
use Rattle.calls_attempt.proofs.put_past.Given as goal

abbrev pub invariant-loop-k : goal.invariant-loop-k
invariant-loop-k l = (l.to ≤ l.at + l.k) × (l.to ≤ l.at + 32770) × (length l.out ≡ length l.initial.out)
