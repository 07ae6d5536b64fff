-- `agreement_at` walks the sequence and the map side by side. Invariant: `Counting`, the map's value at i and the agreement below i.
-- Assumes nothing.
use native.Mathlib.Omega.{arith}
use Rattle.marks.proofs.Walks.{counting-begin, counting-turn, counting-end}
use Rattle.marks.proofs.correlate.agreement_at.Goals as goal

pub loop-i-init : goal.loop-i-init
loop-i-init c =
    counting-begin c.args.marks.now c.args.version c.args.r c.args.reversed c.positions-n.result
    c.quarter-q.result
    c.positions-n.ensures.answer c.quarter-q.ensures.answer c.requires.r_bound

pub loop-i-preserved : goal.loop-i-preserved
loop-i-preserved c =
    let at = c.loop-i in
    counting-turn c.args.marks.now c.args.seq.now c.args.version c.args.r c.args.reversed
    c.positions-n.result at.at at.count at.i
    c.next_place-at.result c.one_if_same-count.result
    c.positions-n.ensures.answer c.requires.all_marks (omega arith)
    c.next_place-at.ensures.within c.one_if_same-count.ensures.at_most
    c.next_place-at.ensures.answer c.one_if_same-count.ensures.answer at.invariant

pub returns : goal.returns
returns c =
    let at = c.loop-i in
    counting-end c.args.marks.now c.args.version c.args.r c.args.reversed
    c.positions-n.result at.at at.count at.i c.positions-n.ensures.answer
    (omega arith) at.invariant
