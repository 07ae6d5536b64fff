-- The parts of demand 3, put together: `moved_by` for any exact way of hull and quad, `demand-3`. Assumes nothing.
use mathlib.Core.List.{[]}
use Prim.Native.Nat.{ℕ, ◌*◌, ◌≤◌, ◌<◌}
use native.Mathlib.Omega.{arith}
use borrow.Author.Tests.{leb-true}
use Rattle.laws.specs.Plane.{Plane, plane, Alike}
use Rattle.laws.specs.Move.{Move, wide_of, high_of, moved, moved_bytes}
use Rattle.laws.proofs.Planes.{plane-drawn}
use Rattle.levels.proofs.Ink.{level-of, ink-of}
use Rattle.labels.specs.Cells.{groups_of, group_size}
use Rattle.regions.specs.Kept.{want, kept_cells}
use Rattle.labels.proofs.Pictures.{cell-ink-of, groups-of}
use Rattle.regions.proofs.Kept.{Untied}
use Rattle.regions.proofs.Regions.{group-count-of, kept-count-of, region-of, size_of, box_of_lem}
use Rattle.boundary.proofs.Points.{points-of}
use Rattle.hull.proofs.Exact.{hull-exact}
use Rattle.hull.proofs.QuadExact.{quad-exact}
use Rattle.doubled.proofs.Exact.{hull-pts, quad-pts}
use Rattle.marks.proofs.PosesMoved.{poses-moved}
use Rattle.turned.specs.Taken.{NoTies, Way, in_floats, in_wholes}
use Rattle.turned.specs.Claims.{SameThresholds, SameInk, SameInkCells, SameGroups, SameRegion, SamePoints, SameHull, SameQuad, Moved, PicturesMoved, Demand3}
use Rattle.turned.proofs.Shapes.{Exact, hull-of, hull-order, quad-of, quad-round-of}

pub untied : (p : Plane) (w h : ℕ) → NoTies p w h → Untied (group_size p w h) (groups_of p w h)
unfolding NoTies Untied want
untied p w h n a b la lb wa wb e = n a b la lb (leb-true 16 (group_size p w h a) wa) (leb-true 16 (group_size p w h b) wb) e

module _ (n : ℕ) (way : Way) (exact : Exact n way) where
  module _ (m : Move) (W H : ℕ) (p p' : Plane) (pos_w : 0 < W) (pos_h : 0 < H) (less_w : 2 * (16 * W) ≤ n) (less_h : 2 * (16 * H) ≤ n)
      (same : Alike (wide_of m (16 * W) (16 * H)) (high_of m (16 * W) (16 * H)) p' (moved m (16 * W) (16 * H) p))
      (ties : NoTies p (16 * W) (16 * H)) where
    abbrev u : Untied (group_size p (16 * W) (16 * H)) (groups_of p (16 * W) (16 * H))
    u = untied p (16 * W) (16 * H) ties

    pub moved-is : Moved m W H p p' way
    unfolding SameThresholds SameInk SameInkCells SameGroups SameRegion SamePoints SameHull SameQuad kept_cells
    moved-is = record {
      thresholds = level-of m W H p p' same;
      ink = ink-of m W H p p' same;
      ink_cells = cell-ink-of m W H p p' same;
      groups = groups-of m W H pos_w pos_h p p' same;
      many = group-count-of m W H pos_w pos_h p p' same;
      kept = kept-count-of m W H pos_w pos_h p p' same;
      regions = λ i l. (
        region-of m W H pos_w pos_h p p' same u i l,
        box_of_lem m W H pos_w pos_h p p' same u i l,
        size_of m W H pos_w pos_h p p' same u i l,
      );
      boundary = λ i l. points-of m W H pos_w pos_h p p' same u i l 4;
      hulls = λ i l.
          let o = hull-order n way exact m W H p p' pos_w pos_h less_w less_h same u i l in
          (hull-of n way exact m W H p p' pos_w pos_h less_w less_h same u i l, o.0, o.1, o.2);
      quads = λ i l a b far one other. (
        quad-of n way exact m W H p p' pos_w pos_h less_w less_h same u i l a b far one other,
        quad-round-of n way exact m W H p p' pos_w pos_h less_w less_h same u i l,
      );
    }

  pub moved_by : (most : ℕ) → 2 * most ≤ n → PicturesMoved most way
  unfolding PicturesMoved
  moved_by most fit W H s t ties m =
      let a = t.wide-most in
      let b = t.high-most in
      moved-is m W H (plane (16 * W) s) (plane (wide_of m (16 * W) (16 * H)) (moved_bytes m (16 * W) (16 * H) s)) t.wide t.high
      (omega arith) (omega arith)
      (plane-drawn (wide_of m (16 * W) (16 * H)) (high_of m (16 * W) (16 * H)) (moved m (16 * W) (16 * H) (plane (16 * W) s)) []) ties

-- ---- both ways
pub floats-exact : Exact 2048 in_floats
floats-exact = record { hulls = hull-exact; quads = quad-exact }

pub wholes-exact : Exact 8192 in_wholes
wholes-exact = record { hulls = λ L up. hull-pts L; quads = λ L up. quad-pts L }

pub demand-3 : Demand3
demand-3 = record {
  pictures = moved_by 2048 in_floats floats-exact _ (omega arith);
  large = moved_by 8192 in_wholes wholes-exact _ (omega arith);
  poses = poses-moved;
}
