-- `turned` has one return for each number of quarter turns. Assumes nothing.
use native.Mathlib.Omega.{arith}
use Rattle.proof_ring.proofs.Turning.{turned-0, turned-1, turned-2, turned-3}
use Rattle.proof_ring.proofs.cells.turned.Goals as goal

pub returns-then-corner-eq0 : goal.returns-then-corner-eq0
returns-then-corner-eq0 c =
    let a = c.args in
    turned-0 a.q a.corner a.s c.if-corner-eq0.true

pub returns-then-corner-eq1 : goal.returns-then-corner-eq1
returns-then-corner-eq1 c =
    let a = c.args in
    turned-1 a.q a.corner a.s c.if-corner-eq1.true

pub returns-then-corner-eq2 : goal.returns-then-corner-eq2
returns-then-corner-eq2 c =
    let a = c.args in
    turned-2 a.q a.corner a.s c.if-corner-eq2.true

pub returns : goal.returns
returns c =
    let a = c.args in
    let p = c.requires in
    turned-3 a.q a.corner a.s (omega (
      arith,
      c.if-corner-eq0.false,
      c.if-corner-eq1.false,
      c.if-corner-eq2.false,
    )) p.y_le_q
