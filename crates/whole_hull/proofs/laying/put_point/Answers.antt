-- `whole_hull::laying::put_point` meets its contract. Assumes nothing.
use native.Mathlib.Omega.{arith}
use lib.ListN.{length-set}
use Rattle.whole_hull.proofs.Stores.{stored-two}
use Rattle.whole_hull.proofs.laying.put_point.Goals as goal

pub bounds-out-at-2 : goal.bounds-out-at-2
bounds-out-at-2 c = simp length-set (omega arith)

pub returns : goal.returns
returns c = stored-two _ _ _ _
