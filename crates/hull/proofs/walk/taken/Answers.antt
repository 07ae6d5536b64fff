-- `hull::walk::taken` meets its contract. Assumes nothing.
use native.Mathlib.Omega.{arith}
use Rattle.hull.proofs.walk.taken.Goals as goal

pub returns-then-better : goal.returns-then-better
returns-then-better c = (rw (← c.better.ensures, c.if-better.true), omega arith)

pub returns : goal.returns
returns c = (rw (← c.better.ensures, c.if-better.false), omega arith)
