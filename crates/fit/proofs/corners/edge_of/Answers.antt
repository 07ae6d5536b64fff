-- `fit::corners::edge_of` meets its contract, which is its own text. Assumes nothing.
use Rattle.fit.specs.Corner.{edge_from}
use Rattle.fit.proofs.corners.edge_of.Goals as goal

pub returns : goal.returns
unfolding edge_from
returns c = simp c.root-len.ensures
