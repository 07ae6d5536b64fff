-- `outline::stores::put_two` meets its contract. Assumes nothing.
use native.Mathlib.Omega.{arith}
use lib.ListN.{length-set}
use Rattle.outline.proofs.Writes.{wrote-two}
use Rattle.outline.proofs.stores.put_two.Goals as goal

pub bounds-out-at-2 : goal.bounds-out-at-2
bounds-out-at-2 c = simp length-set (omega arith)

pub bounds-out-at-3 : goal.bounds-out-at-3
bounds-out-at-3 c = simp length-set (omega arith)

pub bounds-out-at-4 : goal.bounds-out-at-4
bounds-out-at-4 c = simp length-set (omega arith)

pub returns : goal.returns
returns c =
    let a = c.args in
    wrote-two a.at a.ax a.ay a.bx a.by a.out.now c.half.ensures
    c.half-2.ensures c.half-3.ensures c.half-4.ensures
