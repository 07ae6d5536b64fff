-- `fit::consensus::one_if` meets its contract, whether the test holds or not. Assumes nothing.
use borrow.Author.Rules.{rules}
use Rattle.fit.proofs.consensus.one_if.Goals as goal

pub returns-then-t : goal.returns-then-t
returns-then-t c = (simp c.if-t.true, search rules)

pub returns : goal.returns
returns c = (simp c.if-t.false, search rules)
