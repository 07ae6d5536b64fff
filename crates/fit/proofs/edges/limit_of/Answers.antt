-- `fit::edges::limit_of` meets its contract, which is its own text. Assumes nothing.
use Rattle.fit.specs.Consensus.{limit_of}
use Rattle.fit.proofs.edges.limit_of.Goals as goal

pub returns : goal.returns
unfolding limit_of
returns c = simp (c.root-span.ensures, c.d2.ensures)
