-- `lcr_core::border::outer_cell` meets its contract. Assumes nothing.
use native.Mathlib.Omega.{arith}
use Rattle.lcr_core.proofs.Cells.{places, outer-is}
use Rattle.lcr_core.proofs.border.outer_cell.Goals as goal

pub outer_y-requires : goal.outer_y-requires
outer_y-requires c =
    let k = places c.args.version c.args.p c.positions.result c.quarter-q.result
    c.positions.ensures.answer c.quarter-q.ensures.answer (omega arith) in
    record { q_bound = k.0; p_bound = k.1 }

pub returns-clause-answer : goal.returns-clause-answer
returns-clause-answer c =
    outer-is c.args.version c.args.p c.positions.result
    c.quarter-q.result c.outer_x.result
    c.outer_y.result
    c.from_low.result c.from_low-2.result c.positions.ensures.answer
    c.quarter-q.ensures.answer (omega arith)
    c.outer_x.ensures.within c.outer_y.ensures.within c.outer_x.ensures.answer
    c.outer_y.ensures.answer
    c.from_low.ensures c.from_low-2.ensures
