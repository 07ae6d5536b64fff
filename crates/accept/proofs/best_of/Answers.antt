-- `accept::best_of` meets its contract. The best place so far, followed over the places that are left, is the best of all. Assumes nothing.
use Rattle.accept.proofs.BestScores.{best-step, best-end}
use borrow.Author.Rules.{rules}
use Rattle.accept.proofs.best_of.Goals as goal

pub loop-k-preserved : goal.loop-k-preserved
loop-k-preserved c = (
  search rules,
  c.later-b.ensures.1,
  best-step _ _ _ _ _ _ c.loop-k-test.true c.later-b.ensures.0 c.loop-k.invariant.2,
)

pub returns : goal.returns
returns c = (best-end _ _ _ _ _ c.loop-k-test.false c.loop-k.invariant.2, c.loop-k.invariant.1)
