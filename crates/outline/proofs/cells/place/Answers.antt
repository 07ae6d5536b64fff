-- `outline::cells::place` meets its contract. Assumes nothing.
use native.Mathlib.Omega.{arith}
use Rattle.outline.proofs.cells.place.Goals as goal

pub returns-then-back : goal.returns-then-back
returns-then-back c = rw c.if-back.true (omega arith)

pub returns : goal.returns
returns c = rw c.if-back.false (omega arith)
