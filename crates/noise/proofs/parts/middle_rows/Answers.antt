-- `noise::parts::middle_rows` meets its contract: fewer pixels than a run, than two, or not. Assumes nothing.
use mathlib.Core.Path.{sym}
use native.Mathlib.Omega.{arith}
use Rattle.noise.proofs.Middle.{middle-short, middle-tight, middle-shift}
use Rattle.noise.proofs.parts.middle_rows.Goals as goal

pub returns-then-m-k : goal.returns-then-m-k
returns-then-m-k c = sym (middle-short c.args.k c.args.m (omega arith))

pub returns-then-more-k : goal.returns-then-more-k
returns-then-more-k c = sym (middle-tight c.args.k c.args.m (omega arith) (omega arith))

pub returns : goal.returns
returns c = middle-shift c.args.k c.args.m (omega arith) (omega arith) (omega arith)
