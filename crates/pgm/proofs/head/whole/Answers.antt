-- `pgm::head::whole` meets its contract. Assumes nothing.
use Rattle.pgm.proofs.Arms.{rest-whole}
use Rattle.pgm.specs.Steps.{is_whole}
use Rattle.pgm.proofs.head.whole.Goals as goal

pub returns-in-Whole : goal.returns-in-Whole
unfolding is_whole
returns-in-Whole c = rw c.in-Whole.is

pub returns-in_default : goal.returns-in_default
returns-in_default c = rest-whole c.args.stage c.in_default.not-Whole
