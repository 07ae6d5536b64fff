-- The first k cells of next are drawn and bytes, k is in column x and row y, and left is what prev has to the west of it; the measure is
-- the cells left. Assumes nothing.
use mathlib.Core.Path.{◌∙◌, ap}
use Prim.Native.Nat.{ℕ}
use native.Mathlib.Omega.{arith}
use lib.ListN.{get_or}
use Rattle.laws.proofs.Drawing.{drawing-begin, drawing-on, drawing-row}
use Rattle.laws.proofs.Writes.{small-step}
use Rattle.laws.specs.Plane.{plane}
use Rattle.levels.proofs.Fill.{west-first, west-next}
use Rattle.levels.proofs.passes.fill_pass.Goals as goal
use Rattle.levels.proofs.passes.fill_pass.Goals.{then-x-w, else-x-w}

pub loop-k-init : goal.loop-k-init
loop-k-init c = (drawing-begin _ _ _ _, (λ i l. absurd (omega arith)), west-first _ 0)

pub loop-k-preserved : goal.loop-k-preserved
loop-k-preserved c =
    let d = c.loop-k.invariant.0 in
    let l = c.loop-k-test.true in
    let v = c.fill_cell-filled.ensures in
    let small = small-step 255 c.loop-k.k c.fill_cell-filled.result c.loop-k.next c.loop-k.invariant.1 (omega arith) (omega (arith, d.same)) in
    elim c.if-x-w.branch [
      | then-x-w w ↦ (rw (w.x-is, w.y-is) (drawing-row d l (omega arith) v w.if-x-w.true), small, rw (w.left-is, w.x-is, w.y-is) (west-first _ _))
      | else-x-w w ↦ (
        rw (w.x-is, w.y-is) (drawing-on d l (omega arith) v w.if-x-w.false),
        small,
        rw (w.left-is, w.x-is, w.y-is)
            (ap (λ (k : ℕ). get_or c.args.prev.now k 0) d.place ∙ west-next (plane c.args.w c.args.prev.now) c.loop-k.x c.loop-k.y),
      )
    ]
