-- `noise::parts::clear_rows` meets its contract. The loop's invariant: the list holds the counts of up to i pixels. Assumes
-- nothing.
use Rattle.std.proofs.Common.{arith}
use Rattle.noise.proofs.Filling.{filled-begin, filled_more}
use Rattle.noise.proofs.parts.clear_rows.Goals as goal

pub loop-i-init : goal.loop-i-init
loop-i-init c = filled-begin c.args.k (omega arith)

pub loop-i-preserved : goal.loop-i-preserved
loop-i-preserved c =
    let l = c.loop-i in
    filled_more c.args.k l.i l.t l.invariant c.next-v.result (omega arith) c.next-v.ensures

pub returns : goal.returns
returns c = c.loop-i.invariant.at c.args.n (omega arith)
