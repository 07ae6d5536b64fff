-- What the outline door lists for a region of a picture and of the moved one, and what calls of hull and quad make of it, by f32 numbers and by
-- whole numbers: moved alike, as demand 3 has it. Statements only.
use Rattle.std.specs.Prelude.{◌≡◌, ◌↔◌, List, ℕ, Float, None, Ok}
use Rattle.laws.specs.Lists.{NoDup}
use Rattle.laws.specs.Move.{Move}
use Rattle.whole.specs.Points.{Pt, Rot, Clockwise, Starts}
use Rattle.whole.specs.Quad.{Far, OneTop}
use Rattle.whole.specs.Moves.{often, moved_point, moved_round}
use Rattle.hull.specs.Points.{pts_of, floats_of, numbers_of}
use Rattle.hull.specs.Quad.{values_of}
use Rattle.whole_quad.specs.Door.{quad_of_pairs}
use Rattle.turned.specs.Calls.{HullCall, count_of, vertices_of, QuadCall}
use Rattle.turned.specs.Calls.{DoubledCall, stored_by, WholeHullCall, whole_vertices, WholeQuadCall}

-- Points, vertices and corners of a region of a picture of w by h, and those of the moved picture's, in doubled coordinates: as demand 3 has
-- them.
pub record ShapesAlike (m : Move) (w h : ℕ) (points points' vertices vertices' corners corners' : List (ℕ × ℕ)) : Type 0 where
  pub boundary : (p : Pt) → often (moved_point m w h p) (pts_of points') ≡ often p (pts_of points)
  pub hull : Rot (moved_round m w h (pts_of vertices)) (pts_of vertices') × NoDup (pts_of vertices') × Clockwise (pts_of vertices')
      × Starts (pts_of vertices') (pts_of points')
  pub quad : (a b : Pt) → Far (pts_of vertices) a b → OneTop (pts_of vertices) a b → OneTop (pts_of vertices) b a
      → Rot (moved_round m w h (pts_of corners)) (pts_of corners') × Clockwise (pts_of corners')

-- Numbers l and l' that the outline door listed for a region of a picture of w by h and for that of the moved picture; a call of
-- `convex_hull` on each, and a call of `quad` on the vertices that it listed. What the numbers stand for is as demand 3 has it.
pub record OutlinesAlike (m : Move) (w h : ℕ) (l l' : List Float) (k : HullCall l) (k' : HullCall l') (q : QuadCall (vertices_of l k))
    (q' : QuadCall (vertices_of l' k')) : Type 0 where
  pub points : List (ℕ × ℕ)
  pub points' : List (ℕ × ℕ)
  pub vertices : List (ℕ × ℕ)
  pub vertices' : List (ℕ × ℕ)
  pub corners : List (ℕ × ℕ)
  pub corners' : List (ℕ × ℕ)
  pub stored : (l ≡ floats_of points) × (l' ≡ floats_of points')
  pub hulled : (vertices_of l k ≡ floats_of vertices) × (vertices_of l' k' ≡ floats_of vertices')
  pub cornered : (values_of q.answer ≡ floats_of corners) × (values_of q'.answer ≡ floats_of corners')
  pub count : count_of k'.answer ≡ count_of k.answer
  pub alike : ShapesAlike m w h points points' vertices vertices' corners corners'
  pub none : (a b : Pt) → Far (pts_of vertices) a b → OneTop (pts_of vertices) a b → OneTop (pts_of vertices) b a
      → (q.answer ≡ None) ↔ (q'.answer ≡ None)

-- The same by whole numbers: a call of `doubled` on each, one of whole_hull's `convex_hull` on the numbers that it stored, and one of
-- whole_quad's `quad` on the vertices that this listed.
pub record WholeOutlinesAlike (m : Move) (w h : ℕ) (l l' : List Float) (d : DoubledCall l) (d' : DoubledCall l')
    (k : WholeHullCall (stored_by l d)) (k' : WholeHullCall (stored_by l' d')) (q : WholeQuadCall (whole_vertices (stored_by l d) k))
    (q' : WholeQuadCall (whole_vertices (stored_by l' d') k')) : Type 0 where
  pub points : List (ℕ × ℕ)
  pub points' : List (ℕ × ℕ)
  pub vertices : List (ℕ × ℕ)
  pub vertices' : List (ℕ × ℕ)
  pub corners : List (ℕ × ℕ)
  pub corners' : List (ℕ × ℕ)
  pub stored : (l ≡ floats_of points) × (l' ≡ floats_of points')
  pub doubled : (stored_by l d ≡ numbers_of points) × (stored_by l' d' ≡ numbers_of points')
  pub hulled : (whole_vertices (stored_by l d) k ≡ numbers_of vertices) × (whole_vertices (stored_by l' d') k' ≡ numbers_of vertices')
  pub cornered : (q.answer ≡ Ok (quad_of_pairs corners)) × (q'.answer ≡ Ok (quad_of_pairs corners'))
  pub count : count_of k'.answer ≡ count_of k.answer
  pub alike : ShapesAlike m w h points points' vertices vertices' corners corners'
  pub none : (a b : Pt) → Far (pts_of vertices) a b → OneTop (pts_of vertices) a b → OneTop (pts_of vertices) b a
      → (q.answer ≡ Ok None) ↔ (q'.answer ≡ Ok None)

-- What `convex_hull` and `quad` then do, by f32 numbers and by whole numbers, in every call.
unfoldable pub ByFloats : Move → ℕ → ℕ → List Float → List Float → Type 0
ByFloats m w h l l' =
    (k : HullCall l) (k' : HullCall l') (q : QuadCall (vertices_of l k)) (q' : QuadCall (vertices_of l' k'))
    → OutlinesAlike m w h l l' k k' q q'

unfoldable pub ByWholes : Move → ℕ → ℕ → List Float → List Float → Type 0
ByWholes m w h l l' =
    (d : DoubledCall l) (d' : DoubledCall l') (k : WholeHullCall (stored_by l d)) (k' : WholeHullCall (stored_by l' d'))
    → (q : WholeQuadCall (whole_vertices (stored_by l d) k)) (q' : WholeQuadCall (whole_vertices (stored_by l' d') k'))
    → WholeOutlinesAlike m w h l l' d d' k k' q q'
