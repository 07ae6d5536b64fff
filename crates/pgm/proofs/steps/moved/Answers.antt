-- `pgm::steps::moved` meets its contract. Assumes nothing.
use Rattle.pgm.proofs.Arms.{rest-moved}
use Rattle.pgm.specs.Steps.{moved_to}
use Rattle.pgm.proofs.steps.moved.Goals as goal

pub returns-in-Width : goal.returns-in-Width
unfolding moved_to
returns-in-Width c = rw (c.in-Width.is, c.push.ensures)

pub returns-in-Height : goal.returns-in-Height
unfolding moved_to
returns-in-Height c = rw (c.in-Height.is, c.push-in-Height.ensures)

pub returns-in-Maximum : goal.returns-in-Maximum
unfolding moved_to
returns-in-Maximum c = rw (c.in-Maximum.is, c.push-in-Maximum.ensures)

pub returns-in_default : goal.returns-in_default
returns-in_default c =
    rest-moved c.args.h c.args.b c.args.next c.in_default.not-Width c.in_default.not-Height c.in_default.not-Maximum
