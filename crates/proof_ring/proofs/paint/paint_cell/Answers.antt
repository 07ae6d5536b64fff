-- `paint_cell` paints the box of the posed cell, which is in the picture. Assumes nothing.
use native.Mathlib.Omega.{arith}
use Rattle.proof_ring.proofs.Painting.{box-fits, cell-painted, rows_fit, spot-inside}
use Rattle.proof_ring.proofs.paint.paint_cell.Goals as goal

pub overflow_add-to : goal.overflow_add-to
overflow_add-to c =
    let i = spot-inside c.args.plan.now c.args.s c.posed_spot-to.result c.quarter.result
    (record { across = c.requires.x_bound; down = c.requires.y_bound }) c.quarter.ensures.answer
    c.posed_spot-to.ensures in
    omega (arith, i.across, c.requires.room.version.greatest)

pub overflow_mul-to : goal.overflow_mul-to
overflow_mul-to c =
    let i = spot-inside c.args.plan.now c.args.s c.posed_spot-to.result c.quarter.result
    (record { across = c.requires.x_bound; down = c.requires.y_bound }) c.quarter.ensures.answer
    c.posed_spot-to.ensures in
    omega (
      arith,
      box-fits c.args.plan.now.version c.args.plan.now.pitch c.posed_spot-to.result.x i.across,
      c.requires.room.wide,
      c.requires.room.width,
    )

pub overflow_add-to-2 : goal.overflow_add-to-2
overflow_add-to-2 c =
    let i = spot-inside c.args.plan.now c.args.s c.posed_spot-to.result
    c.quarter.result
    (record { across = c.requires.x_bound; down = c.requires.y_bound }) c.quarter.ensures.answer
    c.posed_spot-to.ensures in
    omega (arith, i.down, c.requires.room.version.greatest)

pub overflow_mul-to-2 : goal.overflow_mul-to-2
overflow_mul-to-2 c =
    let i = spot-inside c.args.plan.now c.args.s c.posed_spot-to.result
    c.quarter.result
    (record { across = c.requires.x_bound; down = c.requires.y_bound }) c.quarter.ensures.answer
    c.posed_spot-to.ensures in
    omega (
      arith,
      box-fits c.args.plan.now.version c.args.plan.now.pitch c.posed_spot-to.result.y i.down,
      c.requires.room.wide,
      c.requires.room.width,
    )

pub paint_box-requires : goal.paint_box-requires
paint_box-requires c =
    let i = spot-inside c.args.plan.now c.args.s c.posed_spot-to.result
    c.quarter.result
    (record { across = c.requires.x_bound; down = c.requires.y_bound }) c.quarter.ensures.answer
    c.posed_spot-to.ensures in
    record {
      w_bound = c.requires.room.width;
      n_bound = omega (
        arith,
        box-fits c.args.plan.now.version c.args.plan.now.pitch c.posed_spot-to.result.x i.across,
        c.requires.room.wide,
      );
      w_in_bounds = rows_fit c.args.plan.now.version c.args.plan.now.pitch c.args.plan.now.width
          c.posed_spot-to.result.y _ i.down
          c.requires.room.rows;
    }

pub returns : goal.returns
returns c =
    cell-painted c.args.plan.now c.args.s c.posed_spot-to.result
    c.quarter.result _ _ c.requires.room.pitch-low
    (record { across = c.requires.x_bound; down = c.requires.y_bound }) c.quarter.ensures.answer
    c.posed_spot-to.ensures
    c.paint_box.ensures
