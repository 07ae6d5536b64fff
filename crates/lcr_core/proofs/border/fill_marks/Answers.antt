-- `lcr_core::border::fill_marks` meets its contract. The loop's invariant: the first p places of `out` hold the row's first p marks, and
-- `out` keeps its length. Assumes nothing.
use lib.ListN.{length-set}
use native.Mathlib.Omega.{arith}
use mathlib.Core.Path.{refl}
use Rattle.lcr_core.proofs.Rows.{marks-none, marks-turn, marks-done}
use Rattle.lcr_core.proofs.border.fill_marks.Goals as goal

pub loop-p-init : goal.loop-p-init
loop-p-init c = (refl, marks-none _ _ _)

pub loop-p-preserved : goal.loop-p-preserved
loop-p-preserved c =
    let a = c.args in
    let at = c.loop-p in (
      simp length-set at.invariant.0,
      marks-turn a.ring.now a.start at.p at.out c.bit_of.result (omega arith) c.bit_of.ensures at.invariant.1,
    )

pub returns : goal.returns
returns c =
    let a = c.args in
    let at = c.loop-p in
    marks-done a.ring.now a.start at.p a.n at.out (omega arith) at.invariant.1
