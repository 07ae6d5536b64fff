-- Hull and quad of the kept regions of a moved picture, by any way of working them out that is exact for the picture's points.
--     sides-le, up_of, hull-within       how large sides and coordinates are
--     Exact                              a way that gives hull and quad of whole numbers, for coordinates up to a bound
--     small, small'                      the boundary points of a picture and of the moved one are so
--     hull-of, hull-order, quad-of, quad-round-of   hull and quad of the moved picture
-- Assumes nothing.
use mathlib.Core.Path.{◌≡◌, refl, sym, ap, ◌∙◌, subst}
use mathlib.Core.List.{List, [], ◌∷◌, Memᴰ}
use Prim.Native.Nat.{ℕ, ◌*◌, ◌≤◌, ◌<◌}
use native.Mathlib.Omega.{arith}
use lib.IntN.{nat_abs}
use Rattle.laws.specs.Lists.{NoDup}
use Rattle.laws.specs.Plane.{Plane, Alike}
use Rattle.laws.specs.Move.{Move, still, flipped, turned, sides_of, wide_of, high_of, moved, Box}
use Rattle.laws.proofs.Moves.{sides-times}
use Rattle.whole.specs.Points.{Pt, Mem, Rot, Clockwise, Starts}
use Rattle.whole.specs.Hull.{hull}
use Rattle.whole.specs.Quad.{quad, Far, OneTop}
use Rattle.whole.specs.Moves.{moved_round}
use Rattle.whole.proofs.IsHull.{hull-is}
use Rattle.whole.proofs.Clockwise.{quad-clockwise}
use Rattle.whole.proofs.Rounds.{same_of, hull-round, quad-round}
use Rattle.labels.specs.Cells.{groups_of, group_size}
use Rattle.regions.specs.Kept.{kept_count, kept_label}
use Rattle.regions.specs.Boxes.{region_box}
use Rattle.regions.proofs.Kept.{Untied}
use Rattle.regions.proofs.Regions.{box_of_lem}
use Rattle.boundary.specs.Boundary.{is_member, outline_of}
use Rattle.boundary.proofs.Boundary.{Within, box-within}
use Rattle.boundary.proofs.Points.{points-of, region-within}
use Rattle.boundary.proofs.Outlines.{boundary-within}
use Rattle.hull.specs.Points.{pt_of, pts_of, UpTo}
use Rattle.turned.specs.Taken.{Way}

-- ---- how large sides and coordinates are
pub sides-le : (m : Move) (w h n : ℕ) → w ≤ n → h ≤ n → (wide_of m w h ≤ n) × (high_of m w h ≤ n)
unfolding sides_of
sides-le still w h n a b = (a, b)
sides-le flipped w h n a b = (a, b)
sides-le (turned m) w h n a b = let r = sides-le m w h n a b in (r.1, r.0)

-- a point of the list by its point of the plane
mem-pts : (L : List (ℕ × ℕ)) (q : ℕ × ℕ) → Memᴰ q L → Mem (pt_of q) (pts_of L)
mem-pts [] q t = elim t [ ]
mem-pts (r ∷ L) q (Memᴰ.head e) = Memᴰ.head (ap pt_of e)
mem-pts (r ∷ L) q (Memᴰ.tail t) = Memᴰ.tail (mem-pts L q t)

up_of : (n : ℕ) (L : List (ℕ × ℕ)) → UpTo n L → (q : ℕ × ℕ) → Mem (pt_of q) (pts_of L) → (q.0 ≤ n) × (q.1 ≤ n)
up_of n [] up q t = elim t [ ]
up_of n (r ∷ L) up q (Memᴰ.head e) =
    let b = up r (Memᴰ.head refl) in
    let x : q.0 ≡ r.0 = unfold pt_of in ap (λ (p : Pt). nat_abs p.x) e in
    let y : q.1 ≡ r.1 = unfold pt_of in ap (λ (p : Pt). nat_abs p.y) e in
    (omega (arith, b.0), omega (arith, b.1))
up_of n (r ∷ L) up q (Memᴰ.tail t) = up_of n L (λ q m. up q (Memᴰ.tail m)) q t

-- ---- hull and quad of whole numbers, for coordinates up to n
pub record Exact (n : ℕ) (way : Way) : Type 0 where
  pub hulls : (L : List (ℕ × ℕ)) → UpTo n L → pts_of (way.hull_of_points L) ≡ hull (pts_of L)
  pub quads : (L : List (ℕ × ℕ)) → UpTo n L → pts_of (way.quad_of_hull L) ≡ quad (pts_of L)

module _ (n : ℕ) (way : Way) (exact : Exact n way) where
  -- the hull's points are points of the list
  pub hull-within : (L : List (ℕ × ℕ)) → UpTo n L → UpTo n (way.hull_of_points L)
  hull-within L up q t =
      up_of n L up q
      ((hull-is (pts_of L)).points (pt_of q) (subst (Mem (pt_of q)) (exact.hulls L up) (mem-pts (way.hull_of_points L) q t)))

  quad-both : (L : List (ℕ × ℕ)) → UpTo n L → pts_of (way.quad_of_hull (way.hull_of_points L)) ≡ quad (hull (pts_of L))
  quad-both L up = exact.quads (way.hull_of_points L) (hull-within L up) ∙ ap quad (exact.hulls L up)

  module _ (m : Move) (W H : ℕ) (p p' : Plane) (pos_w : 0 < W) (pos_h : 0 < H) (less_w : 2 * (16 * W) ≤ n) (less_h : 2 * (16 * H) ≤ n)
      (same : Alike (wide_of m (16 * W) (16 * H)) (high_of m (16 * W) (16 * H)) p' (moved m (16 * W) (16 * H) p))
      (untied : Untied (group_size p (16 * W) (16 * H)) (groups_of p (16 * W) (16 * H))) (i : ℕ) (l : i < kept_count p (16 * W) (16 * H)) where
    abbrev w : ℕ
    w = 16 * W

    abbrev h : ℕ
    h = 16 * H

    abbrev w' : ℕ
    w' = wide_of m w h

    abbrev h' : ℕ
    h' = high_of m w h

    abbrev L : List (ℕ × ℕ)
    L = outline_of 4 p w h (kept_label p w h i)

    abbrev L' : List (ℕ × ℕ)
    L' = outline_of 4 p' w' h' (kept_label p' w' h' i)

    within : Within (region_box p w h (kept_label p w h i)) w h
    within = region-within m W H pos_w pos_h p p' same untied i l

    within' : Within (region_box p' w' h' (kept_label p' w' h' i)) w' h'
    within' = subst (λ (b : Box). Within b w' h') (sym (box_of_lem m W H pos_w pos_h p p' same untied i l))
        (box-within m w h (region_box p w h (kept_label p w h i)) within)

    pub small : UpTo n L
    unfolding outline_of
    small q t =
        let r = boundary-within 4 w h (is_member p w h (kept_label p w h i)) (region_box p w h (kept_label p w h i)) within q t in
        (omega (arith, r.0), omega (arith, r.1))

    pub small' : UpTo n L'
    unfolding outline_of
    small' q t =
        let r = boundary-within 4 w' h' (is_member p' w' h' (kept_label p' w' h' i)) (region_box p' w' h' (kept_label p' w' h' i)) within' q t in
        let s = sides-le m (2 * w) (2 * h) n less_w less_h in
        let d = sides-times m 2 w h in
        (omega (arith, r.0, s.0, d.0), omega (arith, r.1, s.1, d.1))

    -- The hull lists the moved vertices, each once, clockwise from its own start.
    pub hull-of : Rot (moved_round m w h (pts_of (way.hull_of_points L))) (pts_of (way.hull_of_points L'))
    hull-of = rw (exact.hulls L small, exact.hulls L' small')
        (hull-round m w h (pts_of L) (pts_of L') (same_of m w h (pts_of L) (pts_of L') (points-of m W H pos_w pos_h p p' same untied i l 4)))

    pub hull-order : NoDup (pts_of (way.hull_of_points L')) × Clockwise (pts_of (way.hull_of_points L'))
        × Starts (pts_of (way.hull_of_points L')) (pts_of L')
    hull-order = let r = hull-is (pts_of L') in rw (exact.hulls L' small') (r.distinct, r.clockwise, r.starts)

    -- The quad is none in both, or has the moved corners; and it runs clockwise, with no condition.
    pub quad-of : (a c : Pt) → Far (pts_of (way.hull_of_points L)) a c → OneTop (pts_of (way.hull_of_points L)) a c
        → OneTop (pts_of (way.hull_of_points L)) c a
        → Rot (moved_round m w h (pts_of (way.quad_of_hull (way.hull_of_points L)))) (pts_of (way.quad_of_hull (way.hull_of_points L')))
    quad-of a c f o o' =
        let e = exact.hulls L small in
        rw (quad-both L small, quad-both L' small')
        (quad-round m w h (pts_of L) (pts_of L') (same_of m w h (pts_of L) (pts_of L') (points-of m W H pos_w pos_h p p' same untied i l 4)) a c
        (rw e at f) (rw e at o) (rw e at o'))

    pub quad-round-of : Clockwise (pts_of (way.quad_of_hull (way.hull_of_points L')))
    quad-round-of = rw (quad-both L' small') (quad-clockwise (hull (pts_of L')))
