-- `paint_dark` paints the outer cell, then the inner one. Assumes nothing.
use Rattle.lcr_core.specs.Version.{quarter_of}
use Rattle.proof_ring.proofs.Painting.{room-kept, then-painted, within-is}
use Rattle.proof_ring.proofs.Places.{outer-fits}
use Rattle.proof_ring.specs.Inner.{inner_spot, outer_spot, own_inner}
use Rattle.proof_ring.proofs.paint.paint_dark.Goals as goal

pub paint_cell-requires : goal.paint_cell-requires
paint_cell-requires c =
    let v = c.args.plan.now.version in
    let w = within-is (quarter_of v) (outer_spot v c.args.p) c.outer_spot.result c.outer_spot.ensures.answer
    (outer-fits v c.args.p c.requires.room.version c.requires.p_bound) in
    record {
      room = c.requires.room;
      x_bound = w.0;
      y_bound = w.1;
    }

pub paint_inner-requires : goal.paint_inner-requires
paint_inner-requires c =
    record {
      room = room-kept c.args.plan.now c.args.pixels.now c.paint_cell.new.pixels
          c.paint_cell.ensures.same c.requires.room;
      p_bound = c.requires.p_bound;
    }

pub returns : goal.returns
returns c =
    let v = c.args.plan.now.version in
    then-painted c.args.plan.now (own_inner v c.args.p) (outer_spot v c.args.p) (inner_spot v c.args.p)
    c.outer_spot.result
    _ _ _ c.outer_spot.ensures.answer
    c.paint_cell.ensures c.paint_inner.ensures
