-- `pgm::steps::ended` meets its contract. Assumes nothing.
use Rattle.pgm.proofs.Arms.{rest_ended}
use Rattle.pgm.specs.Steps.{is_ended}
use Rattle.pgm.proofs.steps.ended.Goals as goal

pub returns-in-Whole : goal.returns-in-Whole
unfolding is_ended
returns-in-Whole c = rw c.in-Whole.is

pub returns-in-Wrong : goal.returns-in-Wrong
unfolding is_ended
returns-in-Wrong c = rw c.in-Wrong.is

pub returns-in_default : goal.returns-in_default
returns-in_default c = rest_ended c.args.h.stage c.in_default.not-Whole c.in_default.not-Wrong
