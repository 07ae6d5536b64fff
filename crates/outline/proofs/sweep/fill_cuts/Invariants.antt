-- `outline::sweep::fill_cuts` meets its contract. The loop's invariant: t is the threshold of the cell of pixel a, and the first i
-- thresholds are stored. Assumes nothing.
use mathlib.Core.Path.{◌≡◌}
use Prim.Native.Nat.{◌<◌, ◌+◌, ◌/◌}
use Rattle.outline.specs.Inner.{cut_of, CutRow}
use Rattle.outline.proofs.sweep.fill_cuts.Given as goal

abbrev pub invariant-loop-i : goal.invariant-loop-i
invariant-loop-i l =
    (l.a < l.x + l.n) × (l.t ≡ cut_of l.want l.w l.levels l.labels (l.a / 8) (l.y / 8)) × CutRow l.want l.w l.levels l.labels l.x l.i (l.y / 8) l.cuts
