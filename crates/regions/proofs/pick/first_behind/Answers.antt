-- a is the first behind p of those below b (UpTo). Assumes nothing.
use Rattle.regions.proofs.Picking.{upto_turn}
use Rattle.regions.proofs.pick.first_behind.Goals as goal

pub loop-b-preserved : goal.loop-b-preserved
loop-b-preserved c = upto_turn c.loop-b-test.true c.loop-b.invariant c.better-a.ensures
