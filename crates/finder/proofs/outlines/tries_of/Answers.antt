-- `finder::outlines::tries_of` meets its contract. Assumes nothing.
use Rattle.finder.proofs.Regions.{tries-two, tries-one}
use Rattle.finder.proofs.outlines.tries_of.Goals as goal

pub returns-then-k-gt1 : goal.returns-then-k-gt1
returns-then-k-gt1 c = tries-two c.args.k c.if-k-gt1.true

pub returns : goal.returns
returns c = tries-one c.args.k c.if-k-gt1.false
