-- `lens::weigh::all_agree` meets its contract, at whichever edge the first disagrees. Assumes nothing.
use Rattle.fit.proofs.Bands.{and_then, and-stop}
use Rattle.lens.proofs.weigh.all_agree.Goals as goal

pub returns-then-agree-3 : goal.returns-then-agree-3
returns-then-agree-3 c =
    and_then c.agree.ensures c.if-agree.true
    (and_then c.agree-then-agree.ensures c.if-agree-2.true
    (and_then c.agree-then-agree-2.ensures c.if-agree-3.true c.agree-then-agree-3.ensures))

pub returns-else-agree-3 : goal.returns-else-agree-3
returns-else-agree-3 c =
    and_then c.agree.ensures c.if-agree.true
    (and_then c.agree-then-agree.ensures c.if-agree-2.true
    (and-stop _ c.agree-then-agree-2.ensures c.if-agree-3.false))

pub returns-else-agree-2 : goal.returns-else-agree-2
returns-else-agree-2 c =
    and_then c.agree.ensures c.if-agree.true
    (and-stop _ c.agree-then-agree.ensures c.if-agree-2.false)

pub returns-else-agree : goal.returns-else-agree
returns-else-agree c = and-stop _ c.agree.ensures c.if-agree.false
