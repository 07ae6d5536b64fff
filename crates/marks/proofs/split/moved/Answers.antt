-- `moved` counts. Invariant: at most as many are counted as there were, and where none is these are on the same sides. Assumes nothing.
use native.Mathlib.Omega.{arith}
use Rattle.marks.proofs.Splits.{same_none, same_turn}
use Rattle.marks.proofs.split.moved.Goals as goal

pub loop-x-init : goal.loop-x-init
loop-x-init c = (omega arith, λ _. same_none _ _ _)

pub loop-x-preserved : goal.loop-x-preserved
loop-x-preserved c =
    let a = c.args in
    let at = c.loop-x in
    let d = c.differs-n in (
      omega (arith, at.invariant.0, d.ensures.most),
      λ z. same_turn a.w.now a.a a.b at.x-index (at.invariant.1 (omega (arith, z))) (d.ensures.passed (omega (arith, z))),
    )
