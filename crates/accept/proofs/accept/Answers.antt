-- `accept::accept` meets its contract: none without a score, else the best place's. Assumes nothing.
use Rattle.accept.proofs.BestScores.{accept-none, accept-some}
use Rattle.accept.proofs.accept.Goals as goal

pub returns-then-s-eq0 : goal.returns-then-s-eq0
returns-then-s-eq0 c = let a = c.args in accept-none a.q a.s a.l a.relaxed c.if-s-eq0.true

pub returns : goal.returns
returns c =
    let a = c.args in
    accept-some a.q a.s a.l a.relaxed _ _ c.if-s-eq0.false c.best_of-best.ensures.0 c.chosen.ensures
