-- `c_rings::tags::numbers` meets its contract. Assumes nothing.
use Rattle.std.proofs.Common.{refl}
use Rattle.c_rings.proofs.Placed.{rows_whole}
use Rattle.c_rings.proofs.tags.numbers.Goals as goal

pub returns : goal.returns
returns c = rows_whole 44 _ _ _ refl c.put_tags.ensures
