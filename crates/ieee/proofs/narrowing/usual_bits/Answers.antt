-- `ieee::narrowing::usual_bits` meets its contract: the sum is `normal-sum`, below the cap. Assumes nothing.
use Rattle.ieee.proofs.NarrowSteps.{normal-sum}
use Rattle.std.proofs.Common.{◌≤◌, arith}
use Rattle.ieee.proofs.narrowing.usual_bits.Goals as goal

pub returns : goal.returns
returns c =
    let b = c.args.b in
    let below : b ≤ 9218868437227405312 = omega arith in
    let z = normal-sum b c.requires.le_b below in
    (omega arith, omega arith)
