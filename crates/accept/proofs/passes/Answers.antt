-- `accept::passes` meets its contract: the ordinary rule, the relaxed one, neither. Assumes nothing.
use Rattle.accept.specs.Accept.{passes_of}
use Rattle.accept.proofs.passes.Goals as goal

pub returns-then-at_least : goal.returns-then-at_least
unfolding passes_of
returns-then-at_least c = simp (← c.at_least.ensures, c.if-at_least.true)

pub returns-then-relaxed : goal.returns-then-relaxed
unfolding passes_of
returns-then-relaxed c = simp (c.at_least-then-relaxed.ensures, ← c.at_least.ensures, c.if-at_least.false, c.if-relaxed.true)

pub returns : goal.returns
unfolding passes_of
returns c = simp (← c.at_least.ensures, c.if-at_least.false, c.if-relaxed.false)
