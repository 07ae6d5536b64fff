-- `outline::columns::put_column` meets its contract. Assumes nothing.
use native.Mathlib.Omega.{arith}
use borrow.Author.Tests.{le-leb, lt-leb}
use Rattle.outline.specs.Inner.{column_found}
use Rattle.outline.proofs.Writes.{wrote_none}
use Rattle.outline.proofs.columns.put_column.Goals as goal

pub returns-then-d-run : goal.returns-then-d-run
unfolding column_found
returns-then-d-run c =
    let a = c.args in
    rw (lt-leb a.run a.d (omega arith)) (wrote_none a.to a.out.now)

pub returns : goal.returns
unfolding column_found
returns c =
    let a = c.args in
    rw (le-leb a.run a.d (omega arith)) c.put_two.ensures
