-- `drawing::dots` meets its contract. The loop's invariant: the first k points are drawn.
-- Assumes nothing.
use Prim.Native.Nat.{◌≤◌, ◌<◌}
use native.Mathlib.Omega.{arith}
use Rattle.drawing.proofs.Dotted.{dotting-begin, dotting-sides, dotting-length, dotting-turn, dotting-end}
use Rattle.drawing.proofs.dots.Goals as goal

pub loop-k-init : goal.loop-k-init
loop-k-init c = dotting-begin _ _ _ _ _ _

pub dot-requires : goal.dot-requires
dot-requires c = dotting-sides c.loop-k.invariant c.requires

pub loop-k-preserved : goal.loop-k-preserved
loop-k-preserved c =
    let s = c.steps-n in
    let x = c.between-x in
    let y = c.between-y in
    let more : c.loop-k.k ≤ s.result = omega arith in
    dotting-turn c.loop-k.invariant s.result _ _ _ s.ensures.answer more x.ensures.answer y.ensures.answer c.dot.ensures

pub shape_of-plane : goal.shape_of-plane
shape_of-plane c = dotting-length c.loop-k.invariant

pub returns : goal.returns
returns c =
    let s = c.steps-n in
    let past : s.result < c.loop-k.k = omega arith in
    dotting-end c.loop-k.invariant s.result s.ensures.answer past
