-- `doubled::halves` meets its contract. The test of the numbers that are left is that of all. Assumes nothing.
use Rattle.doubled.proofs.Twices.{half-begin, half_step, half-stop}
use Rattle.doubled.proofs.Checks.{good-end}
use Rattle.doubled.proofs.halves.Goals as goal

pub loop-x-init : goal.loop-x-init
loop-x-init c = half-begin c.args.p.now

pub returns-then-twice-gt8192 : goal.returns-then-twice-gt8192
returns-then-twice-gt8192 c =
    half-stop c.args.p.now _ _ _ c.loop-x-test.true c.twice.ensures c.loop-x.invariant c.if-twice-gt8192.true

pub loop-x-preserved : goal.loop-x-preserved
loop-x-preserved c =
    half_step c.args.p.now _ _ _ c.loop-x-test.true c.twice.ensures c.loop-x.invariant c.if-twice-gt8192.false

pub returns : goal.returns
returns c = good-end _ _ _ _ c.loop-x-test.false c.loop-x.invariant
