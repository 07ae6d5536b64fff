-- `lcr_core::border::position` meets its contract. Assumes nothing.
use native.Mathlib.Omega.{arith}
use Rattle.lcr_core.proofs.Cells.{shell-given, edge-read, offset_read, place-near, place-far, along-asks, position-is}
use Rattle.lcr_core.specs.Version.{side_of}
use Rattle.lcr_core.proofs.border.position.Goals as goal

pub returns-then-d-lt2 : goal.returns-then-d-lt2
returns-then-d-lt2 c =
    let e = shell-given (side_of c.args.version) c.shell-d.result c.args.x c.args.y c.requires.in_range c.requires.in_range_2
    c.shell-d.ensures in
    place-near c.args.version c.args.x c.args.y (omega arith)

pub returns-then-d-gt3 : goal.returns-then-d-gt3
returns-then-d-gt3 c =
    let e = shell-given (side_of c.args.version) c.shell-d.result c.args.x c.args.y c.requires.in_range c.requires.in_range_2
    c.shell-d.ensures in
    place-far c.args.version c.args.x c.args.y (omega arith) (omega arith)

pub along-requires : goal.along-requires
along-requires c =
    let s = side_of c.args.version in
    let e = shell-given s c.shell-d.result c.args.x c.args.y c.requires.in_range
    c.requires.in_range_2 c.shell-d.ensures in
    let k = along-asks s c.args.x c.args.y c.edge_and_offset-e.result.offset c.side.result
    c.side.ensures.answer
    (offset_read s _ c.args.x c.args.y c.requires.in_range c.requires.in_range_2 c.edge_and_offset-e.ensures.offset) c.requires.in_range
    c.requires.in_range_2 (omega arith) in
    record { in_range = k.0; c_bound = k.1 }

pub returns : goal.returns
returns c =
    let s = side_of c.args.version in
    let e = shell-given s c.shell-d.result c.args.x
    c.args.y c.requires.in_range c.requires.in_range_2
    c.shell-d.ensures in
    position-is c.args.version c.args.x c.args.y
    c.edge_and_offset-e.result.offset c.on_edge.result
    c.positions-n.result
    c.quarter-q.result
    c.edge_and_offset-e.result.edge c.min-u.result
    c.along.result
    c.requires.in_range c.requires.in_range_2 (omega arith) (omega arith) c.positions-n.ensures.answer
    c.quarter-q.ensures.answer
    (edge-read s _ c.args.x c.args.y c.requires.in_range c.requires.in_range_2
    c.edge_and_offset-e.ensures.edge)
    (offset_read s _ c.args.x c.args.y c.requires.in_range c.requires.in_range_2
    c.edge_and_offset-e.ensures.offset)
    c.along.ensures c.min-u.ensures c.on_edge.ensures
