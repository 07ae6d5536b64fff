-- Lines fitted to points and the crossing of two, by rules 21 to 25 and ring.rs in `tls_line`,
-- `refit_middle` and `intersect`. A line fit is a point with a direction, or none. Definitions only. Assumes nothing.
use Rattle.std.specs.Prelude.{ℕ, zero, suc, ◌+◌, ◌-◌, Bool, cond, ◌&&◌, List, ltb, Float}
use Rattle.std.specs.Float.{nan, binary32}
use Rattle.std.specs.Float.Ieee.{lt, le}
use Rattle.ieee.specs.Root.{sqrt}
use Rattle.ieee.specs.Ops.{abs}
use Rattle.ieee.specs.Constants.{0f, 0·15, 0·85, 1e-3, 1e-6, 1f, 2f}
use Rattle.hull.specs.Points.{many}
use Rattle.hull.specs.declared.points.Point.{Point}
use Rattle.fit.specs.F32.{◌⊕◌, ◌⊖◌, ◌⊗◌, ◌⊘◌, whole_float, x_of, y_of}
use Rattle.fit.specs.Select.{points_by, passing, along_edge, within, off_of}
use Rattle.fit.specs.declared.line.Edge.{Edge}
use Rattle.fit.specs.declared.line.Scatter.{Scatter}
use Rattle.fit.specs.declared.line.Line.{Line}
use Rattle.fit.specs.declared.line.Line.TheVariants.{Along, NoLine}
use Rattle.fit.specs.declared.line.Crossing.{Crossing}
use Rattle.fit.specs.declared.line.Crossing.TheVariants.{At, NoCrossing}

-- ---- the line of total least squares
-- A point by its coordinates.
abbrev pub point_of : Float → Float → Point
point_of x y = record { x = x; y = y }

-- t and the x and y of d points from k on, added in order.
unfoldable pub sums_on : List Float → ℕ → ℕ → Point → Point
sums_on s zero k t = t
sums_on s (suc d) k t = sums_on s d (k + 1) (point_of (t.x ⊕ x_of s k) (t.y ⊕ y_of s k))

-- The sum of the points' x and that of their y, each from its first term; of no points a NaN, as their mean is.
unfoldable pub sums_of : List Float → Point
sums_of s = cond (ltb (many s) 1) (point_of nan nan) (sums_on s (many s - 1) 1 (point_of (x_of s 0) (y_of s 0)))

-- The scatter with one more point, dx and dy from the centre.
abbrev pub spread_of : Scatter → Float → Float → Scatter
spread_of t dx dy = record { xx = t.xx ⊕ dx ⊗ dx; yy = t.yy ⊕ dy ⊗ dy; xy = t.xy ⊕ dx ⊗ dy }

-- The scatter t with d points from k on.
unfoldable pub scatter_on : List Float → Point → ℕ → ℕ → Scatter → Scatter
scatter_on s m zero k t = t
scatter_on s m (suc d) k t = scatter_on s m d (k + 1) (spread_of t (x_of s k ⊖ m.x) (y_of s k ⊖ m.y))

-- The points' scatter about a centre.
abbrev pub scatter_of : List Float → Point → Scatter
scatter_of s m = scatter_on s m (many s) 0 record { xx = 0f; yy = 0f; xy = 0f }

-- The line through m along dx, dy at unit length; a direction shorter than 1e-6 counts as (1, 0).
unfoldable pub along_line : Point → Float → Float → Line
along_line m dx dy =
    let len = sqrt binary32 (dx ⊗ dx ⊕ dy ⊗ dy) in
    cond (lt len 1e-6) (Along m.x m.y 1f 0f) (Along m.x m.y (dx ⊘ len) (dy ⊘ len))

-- The greater eigenvalue of the scatter.
abbrev pub lambda_of : Scatter → Float
lambda_of t =
    (t.xx ⊕ t.yy) ⊘ 2f ⊕ sqrt binary32 ((t.xx ⊖ t.yy) ⊘ 2f ⊗ ((t.xx ⊖ t.yy) ⊘ 2f) ⊕ t.xy ⊗ t.xy)

-- The line along its eigenvector, in the larger of two forms.
unfoldable pub axis_of : Point → Scatter → Line
axis_of m t =
    cond (le (abs (lambda_of t ⊖ t.xx)) (abs (lambda_of t ⊖ t.yy)))
    (along_line m (lambda_of t ⊖ t.yy) t.xy)
    (along_line m t.xy (lambda_of t ⊖ t.xx))

-- The points' mean.
abbrev pub mean_point : List Float → Point
mean_point s = point_of ((sums_of s).x ⊘ whole_float (many s)) ((sums_of s).y ⊘ whole_float (many s))

-- The line through the points' mean along their principal axis.
unfoldable pub tls_of : List Float → Line
tls_of s = axis_of (mean_point s) (scatter_of s (mean_point s))

-- ---- the line along the middle of an edge
-- A point from 0.15 to 0.85 along an edge and within tol of a line.
unfoldable pub near_line : Edge → Float → Float → Float → Float → Float → Float → Float → Bool
near_line e ox oy fx fy tol x y = within 0·15 0·85 (along_edge e x y) && le (off_of ox oy fx fy x y) tol

-- The points that a pass of `refit_middle` keeps.
abbrev pub middle_points : Edge → Float → Float → Float → Float → Float → List Float → List Float
middle_points e ox oy fx fy tol s = points_by (passing (near_line e ox oy fx fy tol)) s

-- The line through a list of at least 8 points.
abbrev pub fit_of : List Float → Line
fit_of s = cond (ltb (many s) 8) NoLine (tls_of s)

-- One pass: the line through the points in the edge's middle within tol of a line.
unfoldable pub line_pass : List Float → Edge → Float → Line → Line
line_pass s e tol (Along x y u v) = fit_of (middle_points e x y u v tol s)
line_pass s e tol NoLine = NoLine

-- Two passes, within one distance of a line and then within another of the line so found.
abbrev pub refit_of : List Float → Edge → Float → Float → Line → Line
refit_of s e wide tight line = line_pass s e tight (line_pass s e wide line)

-- ---- crossings
-- Where two lines cross; none where the determinant's magnitude is below 1e-3, or a line is none.
unfoldable pub cross_of : Line → Line → Crossing
cross_of NoLine m = NoCrossing
cross_of (Along x y u v) NoLine = NoCrossing
cross_of (Along x₀ y₀ u₀ v₀) (Along x₁ y₁ u₁ v₁) =
    let det = u₀ ⊗ v₁ ⊖ v₀ ⊗ u₁ in
    let t = ((x₁ ⊖ x₀) ⊗ v₁ ⊖ u₁ ⊗ (y₁ ⊖ y₀)) ⊘ det in
    cond (lt (abs det) 1e-3) NoCrossing (At (x₀ ⊕ t ⊗ u₀) (y₀ ⊕ t ⊗ v₀))
