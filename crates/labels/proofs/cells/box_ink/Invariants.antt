-- n counts the first j rows of the part. Assumes nothing.
use mathlib.Core.Path.{◌≡◌}
use Prim.Native.Nat.{◌+◌}
use Rattle.labels.specs.Inner.{below}
use Rattle.laws.specs.Plane.{box, plane}
use Rattle.labels.proofs.cells.box_ink.Given as goal

abbrev pub invariant-loop-j : goal.invariant-loop-j
invariant-loop-j l = l.n ≡ box ◌+◌ 0 (below (plane l.w l.s) l.t) l.x0 l.y0 l.lx l.j
