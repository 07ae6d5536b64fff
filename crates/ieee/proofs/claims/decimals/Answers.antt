-- `claims::decimals`: the theorem is `decimals` of `proofs/Decimals.antt`.
-- Assumes nothing.
use Rattle.ieee.proofs.Decimals.{decimals}
use Rattle.ieee.proofs.claims.decimals.Goals as goal

pub returns : goal.returns
returns c = decimals
