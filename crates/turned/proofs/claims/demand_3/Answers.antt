-- `turned::claims::demand_3`: the theorem is `demand-3` of `proofs/Turned.antt`.
-- Assumes nothing.
use Rattle.turned.proofs.Turned.{demand-3}
use Rattle.turned.proofs.claims.demand_3.Goals as goal

pub returns : goal.returns
returns c = demand-3
