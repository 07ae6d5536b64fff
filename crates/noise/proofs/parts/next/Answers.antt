-- `noise::parts::next` meets its contract: the recurrence, below k pixels and from there on. Assumes nothing.
use native.Mathlib.Omega.{arith}
use Rattle.noise.proofs.Filling.{filled-most, filled-short, filled-less, filled-long}
use Rattle.noise.proofs.parts.next.Goals as goal

pub overflow_mul-result : goal.overflow_mul-result
overflow_mul-result c = omega (arith, filled-most c.args.k c.args.i c.args.t.now c.requires.filled (omega arith))

pub returns-then-i-k : goal.returns-then-i-k
returns-then-i-k c = filled-short c.args.k c.args.i c.args.t.now c.requires.filled (omega arith) (omega arith)

pub overflow_mul-result-2 : goal.overflow_mul-result-2
overflow_mul-result-2 c = omega (arith, filled-most c.args.k c.args.i c.args.t.now c.requires.filled (omega arith))

pub overflow_sub-result-2 : goal.overflow_sub-result-2
overflow_sub-result-2 c = filled-less c.args.k c.args.i c.args.t.now c.requires.filled (omega arith) (omega arith)

pub returns : goal.returns
returns c = filled-long c.args.k c.args.i c.args.t.now c.requires.filled (omega arith) (omega arith)
