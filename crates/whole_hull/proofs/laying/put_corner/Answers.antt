-- `whole_hull::laying::put_corner` meets its contract. Assumes nothing.
use native.Mathlib.Omega.{arith}
use Rattle.whole_hull.proofs.Halves.{corner-yes, corner-no}
use Rattle.whole_hull.proofs.laying.put_corner.Goals as goal

pub put_vertex-requires : goal.put_vertex-requires
put_vertex-requires c =
    let p = c.requires.chain_places in
    record {
      a_len = (p.size, p.room);
      full = p.points c.args.k (omega arith);
      at_in_bounds = c.requires.at_in_bounds c.if-straight.true;
    }

pub returns-then-straight : goal.returns-then-straight
returns-then-straight c = corner-yes _ _ _ c.if-straight.true c.put_vertex.ensures

pub returns : goal.returns
returns c = corner-no _ _ _ _ c.if-straight.false
