-- `ieee::narrowing::normal_bits` meets its contract: the sum is `normal-sum`, capped. Assumes nothing.
use Rattle.ieee.proofs.NarrowSteps.{normal-sum}
use Rattle.std.proofs.Common.{arith}
use Rattle.ieee.proofs.narrowing.normal_bits.Goals as goal

pub returns-then-p-lt2139095040 : goal.returns-then-p-lt2139095040
returns-then-p-lt2139095040 c = let z = normal-sum c.args.a c.requires.le_a c.requires.a_bound in omega arith

pub returns-else-p-lt2139095040 : goal.returns-else-p-lt2139095040
returns-else-p-lt2139095040 c = let z = normal-sum c.args.a c.requires.le_a c.requires.a_bound in omega arith
