-- `doubled::halves` meets its contract. The test of the numbers that are left is that of all. Assumes nothing.
use Rattle.doubled.specs.Doubled.{twices}
use Rattle.doubled.specs.Checks.{coordinates_on, coordinates_of}
use lib.ListN.{length}
use Prim.Native.Nat.{◌-◌}
use mathlib.Core.Path.{◌≡◌}
use Rattle.doubled.proofs.halves.Given as goal

abbrev pub invariant-loop-x : goal.invariant-loop-x
invariant-loop-x l = coordinates_on (twices l.p) (length l.p - l.x-index) l.x-index ≡ coordinates_of (twices l.p)
