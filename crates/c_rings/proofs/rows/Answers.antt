-- `c_rings::rows` meets its contract. Assumes nothing.
use Rattle.std.proofs.Common.{refl}
use Rattle.c_rings.proofs.Placed.{rows_whole}
use Rattle.c_rings.proofs.rows.Goals as goal

pub returns : goal.returns
returns c = rows_whole 256 _ _ _ refl c.put_scores.ensures
