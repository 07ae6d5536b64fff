-- The first i bins hold their sums. Assumes nothing.
use mathlib.Core.Path.{◌≡◌}
use Prim.Native.Nat.{◌<◌, ℕ}
use lib.ListN.{get_or, length}
use Rattle.levels.specs.Inner.{sums}
use Rattle.levels.proofs.cells.merged.Given as goal

abbrev pub invariant-loop-i : goal.invariant-loop-i
invariant-loop-i l = (length l.r ≡ 32) × ((k : ℕ) → k < l.i → get_or l.r k 0 ≡ sums l.bins k)
