-- `outline::refusals::is_part` meets its contract. Assumes nothing.
use native.Mathlib.Omega.{arith}
use borrow.Author.Tests.{lt-ltb, le-ltb}
use Rattle.outline.proofs.refusals.is_part.Goals as goal

pub returns-then-e-a : goal.returns-then-e-a
returns-then-e-a c = let a = c.args in rw (le-ltb a.a a.e (omega arith))

pub returns : goal.returns
returns c = let a = c.args in rw (lt-ltb a.a a.e (omega arith))
