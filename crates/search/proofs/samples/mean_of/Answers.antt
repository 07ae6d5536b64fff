-- `search::samples::mean_of` meets its contract. Assumes nothing.
use Rattle.search.proofs.Sampled.{mean-some, mean-none}
use Rattle.search.proofs.samples.mean_of.Goals as goal

pub returns-then-s : goal.returns-then-s
returns-then-s c = mean-some c.args.s c.if-s.true

pub returns : goal.returns
returns c = mean-none c.args.s c.if-s.false
