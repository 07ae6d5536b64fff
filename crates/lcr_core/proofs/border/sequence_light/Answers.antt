-- `lcr_core::border::sequence_light` meets its contract. Assumes nothing.
use native.Mathlib.Omega.{arith}
use Rattle.lcr_core.proofs.Rows.{byte_at, light-at}
use Rattle.lcr_core.specs.Ring.{ring_bytes}
use Rattle.lcr_core.proofs.border.sequence_light.Goals as goal

pub overflow_add-byte : goal.overflow_add-byte
overflow_add-byte c =
    let z = byte_at c.args.version c.args.position c.positions-n.result
    c.get.result c.row_start-start.result c.get.ensures.version c.positions-n.ensures.answer
    c.get.ensures.answer c.row_start-start.ensures in
    omega arith

pub bounds-ring-start : goal.bounds-ring-start
bounds-ring-start c =
    byte_at c.args.version c.args.position c.positions-n.result c.get.result
    c.row_start-start.result c.get.ensures.version c.positions-n.ensures.answer c.get.ensures.answer
    c.row_start-start.ensures

pub returns : goal.returns
unfolding ring_bytes
returns c =
    light-at c.args.version c.args.position c.positions-n.result
    c.get.result c.row_start-start.result
    c.positions-n.ensures.answer c.get.ensures.answer
    c.row_start-start.ensures
