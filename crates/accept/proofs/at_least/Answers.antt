-- `accept::at_least` meets its contract. Assumes nothing.
use Rattle.accept.proofs.at_least.Goals as goal

pub returns-then-agreement-least : goal.returns-then-agreement-least
returns-then-agreement-least c = simp c.if-agreement-least.true

pub returns : goal.returns
returns c = simp c.if-agreement-least.false
