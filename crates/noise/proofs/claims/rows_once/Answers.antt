-- `noise::claims::rows_once`: the claim holds. Assumes nothing.
use Rattle.noise.specs.Claims.{RowsOnce}
use Rattle.noise.proofs.Counting.{rows-once}
use Rattle.noise.proofs.claims.rows_once.Goals as goal

pub returns : goal.returns
unfolding RowsOnce
returns c = rows-once
