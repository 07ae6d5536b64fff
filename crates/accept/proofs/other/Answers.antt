-- `accept::other` meets its contract: k is the best place, or not. Assumes nothing.
use Rattle.accept.specs.Accept.{other_of}
use borrow.Author.Tests.{eq-eqb, ne_eqb}
use Rattle.accept.proofs.other.Goals as goal

pub returns-then-k-best : goal.returns-then-k-best
unfolding other_of
returns-then-k-best c = simp (eq-eqb _ _ c.if-k-best.true)

pub returns : goal.returns
unfolding other_of
returns c = simp (ne_eqb _ _ c.if-k-best.false, c.max32.ensures)
