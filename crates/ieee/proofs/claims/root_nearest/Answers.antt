-- `claims::root_nearest`: the theorem is `root-nearest` of `proofs/RootNearest.antt`.
-- Assumes nothing.
use Rattle.ieee.proofs.RootNearest.{root-nearest}
use Rattle.ieee.proofs.claims.root_nearest.Goals as goal

pub returns : goal.returns
returns c = root-nearest
