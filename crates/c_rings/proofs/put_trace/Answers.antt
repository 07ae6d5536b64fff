-- `c_rings::put_trace` meets its contract. Assumes nothing.
use Rattle.std.proofs.Common.{refl}
use Rattle.c_rings.proofs.put_trace.Goals as goal

pub returns : goal.returns
returns c =
    record {
      hull = refl;
      found = c.is_found.ensures;
      quad = c.corners_of.ensures;
      tried = refl;
      scores = c.rows.ensures;
      fix = c.ring_of.ensures;
      fallback = c.ring_of-2.ensures;
    }
