-- What calls of `convex_hull`, `quad` and `correlate` answer, of moved points and moved marks.
--     count-is, vertices-is      the vertices that a call lists, of points in doubled coordinates
--     round-long, rot-length       a moved way round has as many points
--     none_both                  no quad in both, or in neither
--     by-floats                  all of these of a picture and of the moved one
--     marks-moved                the eight counts of moved marks
-- Assumes nothing.
use mathlib.Core.Path.{◌≡◌, refl, sym, ap, ap₂, ◌∙◌}
use mathlib.Core.Logic.{◌↔◌}
use mathlib.Core.Bool.{Bool, true, false, cond}
use mathlib.Core.List.{List, map, reverse}
use Prim.Native.Nat.{ℕ, zero, suc, ◌*◌, ◌<◌}
use native.Mathlib.Omega.{arith}
use borrow.Author.Tests.{le-leb, eq-eqb}
use lib.Ieee.{Float}
use lib.ListN.{length, get_or, take, drop, length-map, length-reverse}
use lib.Seq.{take_at}
use Rattle.whole.proofs.Reordered.{rot-length}
use Rattle.laws.specs.Move.{Move, is_flipped}
use Rattle.whole.specs.Points.{Pt, Rot}
use Rattle.whole.specs.Moves.{moved_point, moved_round}
use Rattle.laws.specs.Lent.{laid}
use Rattle.hull.specs.Points.{many, pt_of, pts_of, floats_of}
use Rattle.hull.specs.Hull.{hull_of, hull_floats, hull_points}
use Rattle.hull.specs.Door.{vertices_after}
use Rattle.hull.specs.Quad.{quad_points, quad_floats, values_of}
use Rattle.std.proofs.Common.{Option, Some, None, Ok}
use Rattle.std.proofs.lemmas.Option.{none-some}
use Rattle.laws.specs.Said.{Said, give}
use Rattle.refusal.specs.Numbers.{said}
use Rattle.refusal.proofs.Numbers.{said-give}
use Rattle.hull.specs.declared.points.Quad.{Quad}
use Rattle.lcr_core.specs.Version.{IsVersion, positions_of}
use Rattle.marks.specs.Pose.{corner_to, reversed_to, agreement, counts_of}
use Rattle.marks.specs.Doors.{correlate_answer, pose_and_counts}
use Rattle.marks.proofs.PosesMoved.{poses-moved}
use Rattle.turned.specs.Calls.{HullCall, count_of, vertices_of, QuadCall, CorrelateCall, counts_in}
use Rattle.turned.specs.Outlines.{ShapesAlike, ByFloats}
use Rattle.turned.specs.Doors.{count_at, MarkDoorMoved}
use Rattle.hull.proofs.Floats.{many-floats, hull-floats, quad-floats, length-floats}

-- ---- vertices

module _ (L : List (ℕ × ℕ)) (l : List Float) (e : l ≡ floats_of L) (k : HullCall l) where
  told : said k.answer ≡ give (length (hull_of l (many l)))
  told = k.answer-is ∙ rw (le-leb (length l) (length k.lent) k.accepted)

  answered : k.answer ≡ Ok (length (hull_of l (many l)))
  answered = said-give k.answer (length (hull_of l (many l))) told

  pub count-is : count_of k.answer ≡ length (hull_points L)
  unfolding hull_points
  count-is =
      ap count_of answered ∙ ap (λ (x : List Float). length (hull_of x (many x))) e
      ∙ ap (λ (n : ℕ). length (hull_of (floats_of L) n)) (many-floats L)
      ∙ sym (length-map (hull_of (floats_of L) (length L)) (λ i. get_or L i (0, 0)))

  pub vertices-is : vertices_of l k ≡ floats_of (hull_points L)
  vertices-is =
      ap₂ (λ (n : ℕ) (x : List Float). take (2 * n) x) count-is
      (k.list-is ∙ ap (λ (h : Said ℕ). vertices_after h l k.lent) told ∙ ap (λ (x : List Float). laid x k.lent) vertices)
      ∙ take_at (floats_of (hull_points L)) (drop (length (floats_of (hull_points L))) k.lent) (2 * length (hull_points L))
      (length-floats (hull_points L))
    where
      vertices : hull_floats l ≡ floats_of (hull_points L)
      vertices = ap hull_floats e ∙ hull-floats L

  pub cornered : (q : QuadCall (vertices_of l k)) → values_of q.answer ≡ floats_of (quad_points (hull_points L))
  cornered q = q.answer-is ∙ ap quad_floats vertices-is ∙ quad-floats (hull_points L)

-- ---- as many

round-long : (m : Move) (w h : ℕ) (l : List Pt) → length (moved_round m w h l) ≡ length l
unfolding moved_round
round-long m w h l = go (is_flipped m)
  where
    go : (b : Bool) → length (cond b (reverse (map (moved_point m w h) l)) (map (moved_point m w h) l)) ≡ length l
    go true = length-reverse (map (moved_point m w h) l) ∙ length-map l (moved_point m w h)
    go false = length-map l (moved_point m w h)

pub as_many : (m : Move) (w h : ℕ) (L L' : List (ℕ × ℕ)) → Rot (moved_round m w h (pts_of L)) (pts_of L') → length L' ≡ length L
as_many m w h L L' r =
    omega (
      arith,
      rot-length (moved_round m w h (pts_of L)) (pts_of L') r,
      round-long m w h (pts_of L),
      length-map L pt_of,
      length-map L' pt_of,
    )

-- ---- none

none-empty : (a : Option Quad) (L : List (ℕ × ℕ)) → values_of a ≡ floats_of L → (a ≡ None → length L ≡ 0) × (length L ≡ 0 → a ≡ None)
unfolding values_of
none-empty (Some q) L e = (λ n. absurd (none-some q (sym n)), λ n. absurd (omega (arith, n, ap length e, length-floats L)))
none-empty None L e = (λ n. omega (arith, ap length e, length-floats L), λ n. refl)

pub none_both : (a a' : Option Quad) (L L' : List (ℕ × ℕ)) → values_of a ≡ floats_of L → values_of a' ≡ floats_of L' → length L' ≡ length L
    → (a ≡ None) ↔ (a' ≡ None)
none_both a a' L L' e e' same =
    let z = none-empty a L e in
    let z' = none-empty a' L' e' in
    (λ n. z'.1 (same ∙ z.0 n), λ n. z.1 (sym same ∙ z'.0 n))

-- ---- a picture and the moved one

pub by-floats : (m : Move) (w h : ℕ) (L L' : List (ℕ × ℕ)) (l l' : List Float) → l ≡ floats_of L → l' ≡ floats_of L'
    → ShapesAlike m w h L L' (hull_points L) (hull_points L') (quad_points (hull_points L)) (quad_points (hull_points L')) → ByFloats m w h l l'
unfolding ByFloats
by-floats m w h L L' l l' e e' shapes k k' q q' = record {
  points = L;
  points' = L';
  vertices = hull_points L;
  vertices' = hull_points L';
  corners = quad_points (hull_points L);
  corners' = quad_points (hull_points L');
  stored = (e, e');
  hulled = (vertices-is L l e k, vertices-is L' l' e' k');
  cornered = (cornered L l e k q, cornered L' l' e' k' q');
  count = count-is L' l' e' k' ∙ as_many m w h (hull_points L) (hull_points L') shapes.hull.0 ∙ sym (count-is L l e k);
  alike = shapes;
  none = λ a b far one other.
      none_both q.answer q'.answer (quad_points (hull_points L)) (quad_points (hull_points L')) (cornered L l e k q) (cornered L' l' e' k' q')
      (as_many m w h (quad_points (hull_points L)) (quad_points (hull_points L')) (shapes.quad a b far one other).0);
}

-- ---- marks

accepted : (v : ℕ) → IsVersion v → (marks : List Bool) → length marks ≡ positions_of v → correlate_answer v marks ≡ give (pose_and_counts v marks)
accepted v is marks e = rw (le-leb 1 v is.least, le-leb v 64 is.greatest, eq-eqb (length marks) (positions_of v) e)

counts-are : (v : ℕ) → IsVersion v → (marks : List Bool) → length marks ≡ positions_of v → (c : CorrelateCall v marks)
    → counts_in c.answer ≡ counts_of v marks
counts-are v is marks e c =
    ap counts_in (said-give c.answer (pose_and_counts v marks) (c.answer-is ∙ accepted v is marks e))

at-pose : (v : ℕ) (marks : List Bool) (r : ℕ) (reversed : Bool) → r < 4 → count_at (counts_of v marks) r reversed ≡ agreement v marks r reversed
at-pose v marks zero false l = refl
at-pose v marks (suc zero) false l = refl
at-pose v marks (suc (suc zero)) false l = refl
at-pose v marks (suc (suc (suc zero))) false l = refl
at-pose v marks zero true l = refl
at-pose v marks (suc zero) true l = refl
at-pose v marks (suc (suc zero)) true l = refl
at-pose v marks (suc (suc (suc zero))) true l = refl
at-pose v marks (suc (suc (suc (suc r)))) reversed l = absurd (omega (arith, l))

pub marks-moved : MarkDoorMoved
unfolding MarkDoorMoved
marks-moved v is g old new many moved c c' r reversed l =
    ap (λ (x : List ℕ). count_at x (corner_to g r) (reversed_to g reversed)) (counts-are v is new (moved.many ∙ many) c')
    ∙ at-pose v new (corner_to g r) (reversed_to g reversed) (poses-moved.pose g r l)
    ∙ poses-moved.counts v is g old new many moved r reversed l
    ∙ sym (at-pose v old r reversed l)
    ∙ sym (ap (λ (x : List ℕ). count_at x r reversed) (counts-are v is old many c))
