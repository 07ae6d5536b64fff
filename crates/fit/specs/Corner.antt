-- A quad refined by lines along its edges, and when two quads agree, by rules 21 to 25 and ring.rs in
-- `refine_quad` and `same_quad`. Definitions only. Assumes nothing.
use Rattle.std.specs.Prelude.{Bool, cond, ◌&&◌, List, Float, Option, Some, None, unwrap_or}
use Rattle.std.specs.Float.{binary32}
use Rattle.std.specs.Float.Ieee.{lt, le}
use Rattle.ieee.specs.Root.{sqrt}
use Rattle.ieee.specs.Ops.{abs, max}
use Rattle.ieee.specs.Constants.{0·02, 2f}
use Rattle.hull.specs.declared.points.Point.{Point}
use Rattle.hull.specs.declared.points.Quad.{Quad}
use Rattle.fit.specs.F32.{◌⊕◌, ◌⊖◌, ◌⊗◌, ◌⊘◌, 1·5, 16f, 64f}
use Rattle.fit.specs.Line.{point_of, refit_of, cross_of}
use Rattle.fit.specs.declared.line.Edge.{Edge}
use Rattle.fit.specs.declared.line.Line.{Line}
use Rattle.fit.specs.declared.line.Line.TheVariants.{Along, NoLine}
use Rattle.fit.specs.declared.line.Crossing.{Crossing}
use Rattle.fit.specs.declared.line.Crossing.TheVariants.{At, NoCrossing}

-- The edge from one point to another.
unfoldable pub edge_from : Point → Point → Edge
edge_from a b =
    let dx = b.x ⊖ a.x in
    let dy = b.y ⊖ a.y in
    let len = sqrt binary32 (dx ⊗ dx ⊕ dy ⊗ dy) in
    record { ax = a.x; ay = a.y; ux = dx ⊘ len; uy = dy ⊘ len; len = len }

-- The square of a distance.
abbrev pub d2_of : Float → Float → Point → Float
d2_of x y p = (x ⊖ p.x) ⊗ (x ⊖ p.x) ⊕ (y ⊖ p.y) ⊗ (y ⊖ p.y)

-- The line of the hull's edge from a to b: none under 16; else along its middle, within the greater of 2 and 0.02 of its length, then
-- within 1.5.
unfoldable pub hull_line : List Float → Point → Point → Line
hull_line s a b =
    let e = edge_from a b in
    cond (lt e.len 16f) NoLine (refit_of s e (max (e.len ⊗ 0·02) 2f) 1·5 (Along a.x a.y e.ux e.uy))

-- A crossing whose squared distance from the corner is at most 64; a NaN distance is not.
unfoldable pub near_corner : Crossing → Point → Crossing
near_corner (At x y) p = cond (le (d2_of x y p) 64f) (At x y) NoCrossing
near_corner NoCrossing p = NoCrossing

-- Four crossings as a quad, or none where one is none.
unfoldable pub corners_of : Crossing → Crossing → Crossing → Crossing → Option Quad
corners_of (At ax ay) (At bx by) (At cx cy) (At dx dy) =
    Some record { a = point_of ax ay; b = point_of bx by; c = point_of cx cy; d = point_of dx dy }
corners_of (At ax ay) (At bx by) (At cx cy) NoCrossing = None
corners_of (At ax ay) (At bx by) NoCrossing d = None
corners_of (At ax ay) NoCrossing c d = None
corners_of NoCrossing b c d = None

-- A quad, or q where there is none.
abbrev pub or_quad : Option Quad → Quad → Quad
or_quad c q = unwrap_or c q

-- The line of an edge, or none where that of the edge before it is none.
abbrev pub after_line : Line → Line → Line
after_line (Along x y u v) line = line
after_line NoLine line = NoLine

-- Corners where the lines of neighbouring edges cross, near q's.
abbrev pub refined_at : Quad → Line → Line → Line → Line → Option Quad
refined_at q ab bc cd da =
    corners_of
    (near_corner (cross_of da ab) q.a)
    (near_corner (cross_of ab bc) q.b)
    (near_corner (cross_of bc cd) q.c)
    (near_corner (cross_of cd da) q.d)

-- The refined quad; q itself where an edge is under 16, a fit or crossing is none, or a squared corner move is not at most 64.
unfoldable pub refined_of : List Float → Quad → Quad
refined_of s q =
    or_quad
    (refined_at q (hull_line s q.a q.b) (hull_line s q.b q.c) (hull_line s q.c q.d) (hull_line s q.d q.a))
    q

-- Corners that agree within tol in x and in y; a NaN difference does not.
unfoldable pub same_corner : Point → Point → Float → Bool
same_corner p q tol = le (abs (p.x ⊖ q.x)) tol && le (abs (p.y ⊖ q.y)) tol

-- Quads that agree within tol at every corner.
unfoldable pub same_of : Quad → Quad → Float → Bool
same_of p q tol =
    same_corner p.a q.a tol
    && (same_corner p.b q.b tol && (same_corner p.c q.c tol && same_corner p.d q.d tol))
