-- The needs of threshold_of: below contrast 80 both are 0, else the table gives the quotient. Assumes nothing.
use Rattle.threshold.proofs.Table.{margin-is}
use Rattle.threshold.specs.Threshold.{threshold}
use borrow.Author.Tests.{lt-ltb, le-ltb}
use Prim.Native.Nat.{◌-◌}
use native.Mathlib.Omega.{arith}
use Rattle.threshold.proofs.threshold_of.Goals as goal

pub returns-then-l-d : goal.returns-then-l-d
unfolding threshold
returns-then-l-d c =
    let a = c.args in
    simp (lt-ltb (a.light - a.dark) 80 (omega arith))

pub returns : goal.returns
unfolding threshold
returns c =
    let a = c.args in
    let d = a.dark in
    let l = a.light in
    simp (le-ltb (l - d) 80 (omega arith), margin-is (l - d) l (omega arith) (omega arith) (omega arith)) (omega arith)
