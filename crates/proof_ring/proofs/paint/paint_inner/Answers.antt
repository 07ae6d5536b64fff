-- `paint_inner` paints the inner cell or leaves the picture. Assumes nothing.
use Rattle.lcr_core.specs.Version.{quarter_of}
use Rattle.proof_ring.proofs.Painting.{if-left, if-painted, within-is}
use Rattle.proof_ring.proofs.Places.{inner-fits}
use Rattle.proof_ring.specs.Inner.{inner_spot, own_inner}
use Rattle.proof_ring.proofs.paint.paint_inner.Goals as goal

pub paint_cell-requires : goal.paint_cell-requires
paint_cell-requires c =
    let v = c.args.plan.now.version in
    let w = within-is (quarter_of v) (inner_spot v c.args.p) c.inner_spot.result c.inner_spot.ensures
    (inner-fits v c.args.p c.requires.room.version c.requires.p_bound) in
    record {
      room = c.requires.room;
      x_bound = w.0;
      y_bound = w.1;
    }

pub returns-then-own_inner : goal.returns-then-own_inner
returns-then-own_inner c =
    let v = c.args.plan.now.version in
    if-painted c.args.plan.now c.own_inner.result (own_inner v c.args.p)
    (inner_spot v c.args.p)
    c.inner_spot.result _ _
    c.own_inner.ensures c.if-own_inner.true
    c.inner_spot.ensures c.paint_cell.ensures

pub returns-else-own_inner : goal.returns-else-own_inner
returns-else-own_inner c =
    let v = c.args.plan.now.version in
    if-left c.args.plan.now c.own_inner.result (own_inner v c.args.p) (inner_spot v c.args.p) _
    c.own_inner.ensures
    c.if-own_inner.false
