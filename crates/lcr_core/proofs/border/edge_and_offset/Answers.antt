-- `lcr_core::border::edge_and_offset` meets its contract. Assumes nothing.
use Rattle.lcr_core.proofs.Cells.{level-is, depth-given, sign-given, edge-given, edge-top, edge-bottom, edge-left, edge-right}
use Rattle.lcr_core.specs.Version.{side_of}
use Rattle.lcr_core.proofs.border.edge_and_offset.Goals as goal

pub returns-then-is_negative : goal.returns-then-is_negative
returns-then-is_negative c =
    let es = c.side-side.ensures.answer in
    let s = side_of c.args.version in
    let l = level-is s c.args.x c.args.y _ _ _ _
    (depth-given s _ _ c.args.x c.requires.in_range es c.depth-dx.ensures)
    (depth-given s _ _ c.args.y c.requires.in_range_2 es c.depth-dy.ensures)
    c.is_level.ensures c.if-is_level.true in
    let k = edge-given _ _ c.args.x _ c.requires.in_range
    (edge-top s c.args.x c.args.y l (sign-given c.args.y _ _ c.requires.in_range_2 c.is_negative.ensures c.if-is_negative.true)) in
    record { edge = k.0; offset = k.1 }

pub returns-then-is_level : goal.returns-then-is_level
returns-then-is_level c =
    let es = c.side-side.ensures.answer in
    let s = side_of c.args.version in
    let l = level-is s c.args.x c.args.y _ _ _ _
    (depth-given s _ _ c.args.x c.requires.in_range es c.depth-dx.ensures)
    (depth-given s _ _ c.args.y c.requires.in_range_2 es c.depth-dy.ensures)
    c.is_level.ensures c.if-is_level.true in
    let k = edge-given _ _ c.args.x _ c.requires.in_range
    (edge-bottom s c.args.x c.args.y l (sign-given c.args.y _ _ c.requires.in_range_2 c.is_negative.ensures c.if-is_negative.false)) in
    record { edge = k.0; offset = k.1 }

pub returns-then-is_negative-2 : goal.returns-then-is_negative-2
returns-then-is_negative-2 c =
    let es = c.side-side.ensures.answer in
    let s = side_of c.args.version in
    let l = level-is s c.args.x c.args.y _ _ _ _
    (depth-given s _ _ c.args.x c.requires.in_range es c.depth-dx.ensures)
    (depth-given s _ _ c.args.y c.requires.in_range_2 es c.depth-dy.ensures)
    c.is_level.ensures c.if-is_level.false in
    let k = edge-given _ _ c.args.y _ c.requires.in_range_2
    (edge-left s c.args.x c.args.y l (sign-given c.args.x _ _ c.requires.in_range c.is_negative-2.ensures c.if-is_negative-2.true)) in
    record { edge = k.0; offset = k.1 }

pub returns : goal.returns
returns c =
    let es = c.side-side.ensures.answer in
    let s = side_of c.args.version in
    let l = level-is s c.args.x c.args.y _ _ _ _
    (depth-given s _ _ c.args.x c.requires.in_range es c.depth-dx.ensures)
    (depth-given s _ _ c.args.y c.requires.in_range_2 es c.depth-dy.ensures)
    c.is_level.ensures c.if-is_level.false in
    let k = edge-given _ _ c.args.y _ c.requires.in_range_2
    (edge-right s c.args.x c.args.y l (sign-given c.args.x _ _ c.requires.in_range c.is_negative-2.ensures c.if-is_negative-2.false)) in
    record { edge = k.0; offset = k.1 }
