-- `fit::middle::at_most` meets its contract: two comparisons say what the magnitude's one says. Assumes nothing.
use mathlib.Core.Path.{refl, ◌∙◌}
use Rattle.fit.proofs.Bands.{abs-le, and_then, and-stop}
use Rattle.fit.proofs.middle.at_most.Goals as goal

pub returns-then-tol-v : goal.returns-then-tol-v
returns-then-tol-v c = and_then refl c.if-tol-v.true refl ∙ abs-le _ _

pub returns-else-tol-v : goal.returns-else-tol-v
returns-else-tol-v c = c.if-tol-v.false ∙ and-stop _ refl c.if-tol-v.false ∙ abs-le _ _
