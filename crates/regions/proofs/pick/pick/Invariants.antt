-- The first i kept groups are found and p is the last of them (Picking). Assumes nothing.
use mathlib.Core.Path.{◌≡◌}
use lib.ListN.{length}
use Rattle.regions.proofs.Picking.{Picking}
use Rattle.regions.proofs.pick.pick.Given as goal

abbrev pub invariant-loop-i : goal.invariant-loop-i
invariant-loop-i l = Picking l.sizes l.i l.p l.at × (length l.at ≡ 4)
