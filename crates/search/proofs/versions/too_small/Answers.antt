-- `search::versions::too_small` meets its contract. Assumes nothing.
use Rattle.search.specs.Versions.{too_small}
use Rattle.search.proofs.versions.too_small.Goals as goal

pub returns : goal.returns
unfolding too_small
returns c = simp c.side_of.ensures
