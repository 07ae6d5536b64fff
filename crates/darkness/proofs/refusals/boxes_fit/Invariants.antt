-- The first i boxes are not bad. Assumes nothing.
use mathlib.Core.Bool.{false}
use mathlib.Core.Path.{◌≡◌}
use Prim.Native.Nat.{◌<◌, ℕ}
use Rattle.darkness.specs.Door.{is_bad_box}
use Rattle.darkness.proofs.refusals.boxes_fit.Given as goal

abbrev pub invariant-loop-i : goal.invariant-loop-i
invariant-loop-i l = (j : ℕ) → j < l.i → is_bad_box l.w l.h l.boxes j ≡ false
