-- `accept::fix_of` meets its contract: the corners in order, the side, the transform. Assumes nothing.
use Rattle.accept.proofs.BestScores.{fix_is}
use Rattle.accept.proofs.fix_of.Goals as goal

pub returns : goal.returns
returns c =
    let a = c.args in
    fix_is a.q a.s a.l _ _ _ _ c.turned-z.ensures c.side_of-side.ensures
    c.ring_transform.ensures c.fixed_by.ensures
