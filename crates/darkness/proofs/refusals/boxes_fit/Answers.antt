-- The first i boxes are not bad. Assumes nothing.
use mathlib.Core.Bool.{false}
use mathlib.Core.Path.{◌∙◌, ◌≡◌}
use Prim.Native.Nat.{◌/◌}
use native.Mathlib.Omega.{arith}
use lib.ListN.{length}
use Rattle.laws.proofs.Stores.{below_next}
use Rattle.darkness.proofs.Checks.{bad-is, none-bad, some-bad}
use Rattle.darkness.specs.Door.{is_bad_box}
use Rattle.darkness.proofs.refusals.boxes_fit.Goals as goal

pub returns-then-is_bad : goal.returns-then-is_bad
returns-then-is_bad c =
    let at = c.loop-i in
    let a = c.args in
    let boxes = a.boxes.now in
    some-bad (is_bad_box a.w a.h boxes) at.i (length boxes / 4) (omega arith)
    (bad-is a.w a.h boxes at.i c.box_at.ensures c.is_bad.ensures ∙ c.if-is_bad.true)

pub loop-i-preserved : goal.loop-i-preserved
loop-i-preserved c =
    let at = c.loop-i in
    let a = c.args in
    let boxes = a.boxes.now in
    below_next (λ j. is_bad_box a.w a.h boxes j ≡ false) at.i at.invariant
    (bad-is a.w a.h boxes at.i c.box_at.ensures c.is_bad.ensures ∙ c.if-is_bad.false)

pub returns : goal.returns
returns c =
    let a = c.args in
    let boxes = a.boxes.now in
    none-bad (is_bad_box a.w a.h boxes) (length boxes / 4) (λ i l. c.loop-i.invariant i (omega arith))
