-- `lcr_core::border::sequence` meets its contract. Assumes nothing.
use native.Mathlib.Omega.{arith}
use Rattle.lcr_core.proofs.Rows.{marks-all, row_room}
use Rattle.lcr_core.specs.Ring.{ring_bytes}
use Rattle.lcr_core.proofs.border.sequence.Goals as goal

pub fill_marks-requires : goal.fill_marks-requires
fill_marks-requires c =
    let z = row_room c.args.version c.positions-n.result c.get.result
    c.row_start-start.result c.get.ensures.version c.positions-n.ensures.answer
    c.get.ensures.answer c.row_start-start.ensures in
    let n = c.positions-n.ensures.answer in
    (z.0, z.1, z.2, omega arith)

pub returns : goal.returns
unfolding ring_bytes
returns c =
    marks-all c.args.version c.positions-n.result
    c.get.result c.row_start-start.result _
    c.positions-n.ensures.answer
    c.get.ensures.answer c.row_start-start.ensures
    c.fill_marks.ensures
