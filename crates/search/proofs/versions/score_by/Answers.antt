-- `search::versions::score_by` meets its contract. Assumes nothing.
use Rattle.std.proofs.Common.{refl}
use Rattle.search.specs.Versions.{score_by}
use Rattle.search.proofs.versions.score_by.Goals as goal

pub returns : goal.returns
unfolding score_by
returns c = refl
