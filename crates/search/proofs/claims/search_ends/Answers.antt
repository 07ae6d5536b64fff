-- `search::claims::search_ends`: the theorem is `search-ends`. Assumes nothing.
use Rattle.search.proofs.Ends.{search-ends}
use Rattle.search.proofs.claims.search_ends.Goals as goal

pub returns : goal.returns
returns c = search-ends
