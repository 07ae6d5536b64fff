-- `hull::walk::first_of` meets its contract. Assumes nothing.
use native.Mathlib.Omega.{arith}
use Rattle.hull.proofs.walk.first_of.Goals as goal

pub returns-then-lower : goal.returns-then-lower
returns-then-lower c = (rw (← c.lower.ensures, c.if-lower.true), omega arith)

pub returns : goal.returns
returns c = (rw (← c.lower.ensures, c.if-lower.false), omega arith)
