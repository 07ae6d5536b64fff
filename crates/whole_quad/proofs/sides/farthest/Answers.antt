-- `whole_quad::sides::farthest` meets its contract. Assumes nothing.
use mathlib.Core.Path.{◌∙◌}
use native.Mathlib.Omega.{arith}
use Rattle.hull.specs.Points.{many}
use Rattle.whole_quad.specs.Inner.{apart, far_from, reach_of}
use Rattle.whole_quad.proofs.Pairs.{rows_are}
use Rattle.whole_quad.proofs.Turns.{apart_some}
use Rattle.whole_quad.proofs.sides.farthest.Goals as goal

pub partner-b-requires : goal.partner-b-requires
unfolding reach_of far_from
partner-b-requires c =
    let p = c.args.p.now in
    let k = c.widest-k in
    record {
      i_bound = (k.ensures.1, (rows_are (apart p) (apart_some p) (many p) k.result.at k.result.val c.requires.bound k.ensures.0).0);
      bounded = c.requires.bounded;
    }

pub returns : goal.returns
unfolding reach_of far_from
returns c =
    let p = c.args.p.now in
    let k = c.widest-k in
    let r = c.partner-b in (
      r.ensures.0 ∙ (rows_are (apart p) (apart_some p) (many p) k.result.at k.result.val c.requires.bound k.ensures.0).1,
      omega arith,
      r.ensures.1,
    )
