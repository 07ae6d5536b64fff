-- `c_rings::tags::put_tag` meets its contract: each store leaves the list as long as it was. Assumes nothing.
use Rattle.std.proofs.Common.{pos, refl, ap, arith, length-set}
use lib.Ieee.{binary32, of_int}
use Rattle.c_rings.proofs.Placed.{eleven-stored}
use Rattle.c_rings.proofs.tags.put_tag.Goals as goal

pub bounds-out-at-2 : goal.bounds-out-at-2
bounds-out-at-2 c = simp length-set (omega arith)

pub bounds-out-at-3 : goal.bounds-out-at-3
bounds-out-at-3 c = simp length-set (omega arith)

pub bounds-out-at-4 : goal.bounds-out-at-4
bounds-out-at-4 c = simp length-set (omega arith)

pub bounds-out-at-5 : goal.bounds-out-at-5
bounds-out-at-5 c = simp length-set (omega arith)

pub bounds-out-at-6 : goal.bounds-out-at-6
bounds-out-at-6 c = simp length-set (omega arith)

pub bounds-out-at-7 : goal.bounds-out-at-7
bounds-out-at-7 c = simp length-set (omega arith)

pub bounds-out-at-8 : goal.bounds-out-at-8
bounds-out-at-8 c = simp length-set (omega arith)

pub bounds-out-at-9 : goal.bounds-out-at-9
bounds-out-at-9 c = simp length-set (omega arith)

pub bounds-out-at-10 : goal.bounds-out-at-10
bounds-out-at-10 c = simp length-set (omega arith)

pub bounds-out-at-11 : goal.bounds-out-at-11
bounds-out-at-11 c = simp length-set (omega arith)

pub shape_of-out : goal.shape_of-out
shape_of-out c = simp length-set refl

pub returns : goal.returns
returns c = eleven-stored _ _ _ _ _ _ _ _ _ _ _ _ _ _ (ap (λ n. of_int binary32 (pos n)) c.flag.ensures)
