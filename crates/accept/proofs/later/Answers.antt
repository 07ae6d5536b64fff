-- `accept::later` meets its contract: the score at k comes before the other, or not. Assumes nothing.
use Rattle.accept.specs.Accept.{later_of}
use borrow.Author.Rules.{rules}
use Rattle.accept.proofs.later.Goals as goal

pub returns-then-before32 : goal.returns-then-before32
unfolding later_of
returns-then-before32 c = (simp (← c.before32.ensures, c.if-before32.true), search rules)

pub returns : goal.returns
unfolding later_of
returns c = (simp (← c.before32.ensures, c.if-before32.false), search rules)
