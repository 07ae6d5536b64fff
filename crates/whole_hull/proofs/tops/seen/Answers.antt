-- `whole_hull::tops::seen` meets its contract. Assumes nothing.
use native.Mathlib.Omega.{arith}
use Rattle.whole_hull.proofs.Stores.{seen_back, seen-on}
use Rattle.whole_hull.proofs.tops.seen.Goals as goal

pub returns-then-back : goal.returns-then-back
returns-then-back c = (seen_back _ _ c.if-back.true, omega arith)

pub returns : goal.returns
returns c = (seen-on _ _ c.if-back.false, omega arith)
