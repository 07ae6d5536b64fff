-- The hull and the quad of points in doubled coordinates are those of points of the plane, and up to 2,048 those of f32 points.
--     hull-pts, quad-pts                 as points of the plane
--     pts-inj                            points of the plane by their coordinates
--     whole-outlines, same-as-floats     the claims
-- Assumes nothing.
use mathlib.Core.Path.{◌≡◌, refl, sym, ap, ◌∙◌, subst}
use mathlib.Core.List.{List, [], ◌∷◌, map}
use Prim.Native.Nat.{ℕ}
use lib.ListN.{length}
use lib.IntN.{nat_abs}
use Rattle.whole.specs.Points.{Pt, pt_at, Clockwise}
use Rattle.whole.specs.Hull.{hull}
use Rattle.whole.specs.Quad.{quad}
use Rattle.whole.specs.Walk.{hull_with, whole_tests, quad_with, whole_ops}
use Rattle.whole.proofs.Wraps.{hull_with-is}
use Rattle.whole.proofs.Indexed.{quad_is}
use Rattle.hull.specs.Points.{pt_of, pts_of}
use Rattle.hull.specs.Hull.{hull_points}
use Rattle.hull.specs.Quad.{quad_points}
use Rattle.hull.proofs.Exact.{map-pt, length-pts, hull-exact}
use Rattle.hull.proofs.QuadExact.{quad-exact}
use Rattle.doubled.specs.Outline.{hull_whole, quad_whole}
use Rattle.whole.specs.IsHull.{IsHull}
use Rattle.doubled.specs.Claims.{WholeOutlines, SameAsFloats}
use Rattle.whole.proofs.IsHull.{hull-is}
use Rattle.whole.proofs.Decided.{decided}
use Rattle.whole.proofs.Clockwise.{quad-clockwise}

pub hull-pts : (L : List (ℕ × ℕ)) → pts_of (hull_whole L) ≡ hull (pts_of L)
unfolding hull_whole
hull-pts L =
    map-pt L (hull_with (whole_tests (pts_of L)) (length L))
    ∙ ap (λ (n : ℕ). map (pt_at (pts_of L)) (hull_with (whole_tests (pts_of L)) n)) (sym (length-pts L))
    ∙ hull_with-is (pts_of L)

pub quad-pts : (L : List (ℕ × ℕ)) → pts_of (quad_whole L) ≡ quad (pts_of L)
unfolding quad_whole
quad-pts L =
    map-pt L (quad_with (whole_ops (pts_of L)) (length L))
    ∙ ap (λ (n : ℕ). map (pt_at (pts_of L)) (quad_with (whole_ops (pts_of L)) n)) (sym (length-pts L))
    ∙ quad_is (pts_of L)

-- the coordinates again
back : Pt → ℕ × ℕ
back p = (nat_abs p.x, nat_abs p.y)

back-pts : (L : List (ℕ × ℕ)) → map back (pts_of L) ≡ L
unfolding pt_of back
back-pts [] = refl
back-pts (q ∷ L) = ap (λ (l : List (ℕ × ℕ)). q ∷ l) (back-pts L)

pub pts-inj : (K L : List (ℕ × ℕ)) → pts_of K ≡ pts_of L → K ≡ L
pts-inj K L e = sym (back-pts K) ∙ ap (map back) e ∙ back-pts L

-- ---- the claims
pub whole-outlines : WholeOutlines
whole-outlines = record {
  hulls = λ L. subst (IsHull (pts_of L)) (sym (hull-pts L)) (hull-is (pts_of L));
  only = λ L vs o. pts-inj vs (hull_whole L) (decided (pts_of L) (pts_of vs) o ∙ sym (hull-pts L));
  quads = λ L. subst Clockwise (sym (quad-pts L)) (quad-clockwise (pts_of L));
}

pub same-as-floats : SameAsFloats
same-as-floats = record {
  hulls = λ L s. pts-inj (hull_points L) (hull_whole L) (hull-exact L s ∙ sym (hull-pts L));
  quads = λ L s. pts-inj (quad_points L) (quad_whole L) (quad-exact L s ∙ sym (quad-pts L));
}
