-- n counts the first j rows of the part. Assumes nothing.
use mathlib.Core.Path.{sym}
use Prim.Native.Nat.{◌+◌}
use native.Mathlib.Nat.{mul-le-mul}
use native.Mathlib.Omega.{arith}
use Rattle.labels.proofs.InkCells.{box-le, box-step, row_inside}
use Rattle.laws.proofs.Planes.{box-none}
use Rattle.laws.specs.Plane.{plane}
use Rattle.labels.proofs.cells.box_ink.Goals as goal

pub loop-j-init : goal.loop-j-init
loop-j-init c = sym (box-none ◌+◌ 0 _ _ _ _)

pub overflow_add-n : goal.overflow_add-n
overflow_add-n c =
    let a = c.args in
    omega (
      arith,
      c.row_ink-n.ensures,
      c.loop-j.invariant,
      box-le (plane a.w a.s.now) a.x0 a.y0 a.lx c.loop-j.j a.t,
      mul-le-mul {n₁ = c.loop-j.j} {m₁ = a.lx} {n₂ = 8} {m₂ = 8} (omega arith) (omega arith),
    )

pub loop-j-preserved : goal.loop-j-preserved
loop-j-preserved c =
    let a = c.args in
    let within = row_inside c.requires c.loop-j-test.true in
    let more = c.row_ink-n.ensures.0 in
    box-step a.s.now a.w a.x0 a.y0 a.lx c.loop-j.j a.t within c.loop-j.invariant more
