-- `c_rings::tags::put_tags` meets its contract.
-- The invariant: the numbers of the places so far are stored, `Laying`, and there are enough.
-- Assumes nothing.
use Rattle.laws.proofs.Laying.{laying-begin, laying-turn, laying-end}
use Rattle.c_rings.proofs.tags.put_tags.Goals as goal

pub loop-k-init : goal.loop-k-init
loop-k-init c = (laying-begin _ _ _ _, c.requires)

pub loop-k-preserved : goal.loop-k-preserved
loop-k-preserved c =
    let inv = c.loop-k.invariant in
    (laying-turn _ _ _ _ _ _ _ c.loop-k-test.true inv.0 c.put_tag.ensures, inv.1)

pub returns : goal.returns
returns c = laying-end _ _ _ _ _ _ c.loop-k-test.false c.loop-k.invariant.0
