-- By the column: the last has no neighbour. Assumes nothing.
use borrow.Author.Tests.{le-ltb, lt-ltb}
use Rattle.levels.specs.Level.{east}
use Rattle.levels.proofs.passes.east_of.Goals as goal

pub returns-then-x-w : goal.returns-then-x-w
unfolding east
returns-then-x-w c = simp (lt-ltb _ _ c.if-x-w.true)

pub returns : goal.returns
unfolding east
returns c = simp (le-ltb _ _ c.if-x-w.false)
