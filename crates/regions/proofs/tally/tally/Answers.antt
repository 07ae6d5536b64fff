-- The counters count the first cells (Tallied). Assumes nothing.
use native.Mathlib.Omega.{arith}
use Rattle.regions.proofs.Tallying.{tallied-begin, tallied-end, tallied-turn}
use Rattle.regions.proofs.tally.tally.Goals as goal

pub loop-x-init : goal.loop-x-init
loop-x-init c =
    tallied-begin c.args.labels.now c.args.sizes.now c.clear.ensures

pub loop-x-preserved : goal.loop-x-preserved
loop-x-preserved c =
    let q = c.loop-x in
    let r = c.bump in
    tallied-turn q.invariant r.auto.sizes r.ensures

pub returns : goal.returns
returns c = λ i b. tallied-end c.loop-x.invariant (omega arith) i (omega (arith, c.clear.auto.list))
