-- `paint_position` leaves the picture at a light position. Assumes nothing.
use Rattle.proof_ring.proofs.Painting.{dark-painted, light-left}
use Rattle.proof_ring.proofs.paint.paint_position.Goals as goal

pub returns-then-light : goal.returns-then-light
returns-then-light c = light-left c.args.plan.now c.args.light c.args.p _ c.if-light.true

pub returns : goal.returns
returns c =
    dark-painted c.args.plan.now c.args.light c.args.p _ _ c.if-light.false
    c.paint_dark.ensures
