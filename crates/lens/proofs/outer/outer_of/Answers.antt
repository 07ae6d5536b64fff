-- `lens::outer::outer_of` meets its contract: the hull has at most as many vertices as there are points, they stand at the beginning of
-- out, and the quad is theirs. Assumes nothing.
use Rattle.std.proofs.Common.{sym, arith, length-take-le}
use Rattle.lens.proofs.HullQuads.{hull-few, hull-part, hull-past, quad-by}
use Rattle.lens.proofs.outer.outer_of.Goals as goal

pub overflow_mul-h : goal.overflow_mul-h
overflow_mul-h c =
    let few = hull-few c.args.s.now in
    let h = c.convex_hull-h.ensures.answer in
    omega arith

pub slice_bounds-quad-end : goal.slice_bounds-quad-end
slice_bounds-quad-end c =
    let few = hull-few c.args.s.now in
    let hull = c.convex_hull-h.ensures in
    let same = (hull-past _ _ _ _ hull.answer hull.out c.requires).same in
    omega arith

pub slice_bounds-quad-end-2 : goal.slice_bounds-quad-end-2
slice_bounds-quad-end-2 c =
    let few = hull-few c.args.s.now in
    let hull = c.convex_hull-h.ensures in
    let same = (hull-past _ _ _ _ hull.answer hull.out c.requires).same in
    sym (length-take-le _ _ (omega arith))

pub returns : goal.returns
returns c =
    let hull = c.convex_hull-h.ensures in
    record {
      hull = hull.answer;
      quad = quad-by _ _ _ (hull-part _ _ _ _ hull.answer hull.out) c.quad-q.ensures;
      out_past = hull-past _ _ _ _ hull.answer hull.out c.requires;
    }
