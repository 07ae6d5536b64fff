-- A quad from four edges, each the line that most points agree with, by rules 21 to 25 and ring.rs in
-- `edge_quad`. Definitions only. Assumes nothing.
use Rattle.std.specs.Prelude.{ℕ, zero, suc, ◌+◌, ◌*◌, ◌/◌, ◌%◌, Bool, cond, ◌&&◌, List, eqb, ltb, Float, Option}
use Rattle.std.specs.Float.{binary32}
use Rattle.std.specs.Float.Ieee.{lt, le, neg}
use Rattle.ieee.specs.Root.{sqrt}
use Rattle.ieee.specs.Constants.{0f, 0·05, 0·15, 0·35, 1·05}
use Rattle.hull.specs.Points.{many}
use Rattle.hull.specs.declared.points.Point.{Point}
use Rattle.hull.specs.declared.points.Quad.{Quad}
use Rattle.fit.specs.F32.{◌⊕◌, ◌⊖◌, ◌⊗◌, ◌⊘◌, whole_float, 0·25, 1·5, 3f, 16f, x_of, y_of}
use Rattle.fit.specs.Select.{points_by, passing, along_edge, within, off_of}
use Rattle.fit.specs.Line.{refit_of, cross_of}
use Rattle.fit.specs.Corner.{edge_from, d2_of, corners_of}
use Rattle.fit.specs.declared.line.Edge.{Edge}
use Rattle.fit.specs.declared.line.Line.{Line}
use Rattle.fit.specs.declared.line.Line.TheVariants.{Along, NoLine}
use Rattle.fit.specs.declared.line.Crossing.{Crossing}
use Rattle.fit.specs.declared.line.Crossing.TheVariants.{At, NoCrossing}
use Rattle.fit.specs.declared.consensus.Trial.{Trial}

-- ---- the points of an edge
-- From −0.05 to 1.05 along an edge, and off it by at most 0.15 of its length.
unfoldable pub search_near : Edge → Float → Float → Bool
search_near e x y =
    within (neg 0·05) 1·05 (along_edge e x y) && le (off_of e.ax e.ay e.ux e.uy x y) (0·15 ⊗ e.len)

-- The points that may belong to an edge.
abbrev pub search_range : Edge → List Float → List Float
search_range e s = points_by (passing (search_near e)) s

-- ---- trials
-- One more where a test holds.
abbrev pub one_if : Bool → ℕ → ℕ
one_if t n = cond t (n + 1) n

-- m and those of d points from k on that are within 1.5 of the line through px, py along fx, fy.
unfoldable pub agree_on : List Float → Float → Float → Float → Float → ℕ → ℕ → ℕ → ℕ
agree_on s px py fx fy zero k m = m
agree_on s px py fx fy (suc d) k m =
    agree_on s px py fx fy d (k + 1) (one_if (le (off_of px py fx fy (x_of s k) (y_of s k)) 1·5) m)

-- How many points are within 1.5 of a line.
abbrev pub agree_of : List Float → Float → Float → Float → Float → ℕ
agree_of s px py fx fy = agree_on s px py fx fy (many s) 0 0

-- The best trial so far and one more line, through px, py along lx, ly, which are l long: it counts where l is not under a third of the
-- edge, and it is better where more points agree.
unfoldable pub better_trial : List Float → Float → Trial → Float → Float → Float → Float → Float → Trial
better_trial s len best px py lx ly l =
    cond (lt l (len ⊘ 3f)) best
    (cond (ltb best.count (agree_of s px py (lx ⊘ l) (ly ⊘ l)))
    record { count = agree_of s px py (lx ⊘ l) (ly ⊘ l); x = px; y = py; u = lx ⊘ l; v = ly ⊘ l }
    best)

-- The same with the line through points i and j.
unfoldable pub trial_at : List Float → Float → Trial → ℕ → ℕ → Trial
trial_at s len best i j =
    let lx = x_of s j ⊖ x_of s i in
    let ly = y_of s j ⊖ y_of s i in
    better_trial s len best (x_of s i) (y_of s i) lx ly (sqrt binary32 (lx ⊗ lx ⊕ ly ⊗ ly))

-- The two points of trial k among n: from two strides, so that every run has the same trials.
abbrev pub first_at : ℕ → ℕ → ℕ
first_at n k = (k * 7919 + 13) % n

abbrev pub second_at : ℕ → ℕ → ℕ
second_at n k = (k * 104729 + n / 2) % n

-- The best so far and trial k.
abbrev pub trial_of : List Float → Float → ℕ → Trial → Trial
trial_of s len k best = trial_at s len best (first_at (many s) k) (second_at (many s) k)

-- The best so far and d trials from k on.
unfoldable pub trials_on : List Float → Float → ℕ → ℕ → Trial → Trial
trials_on s len zero k best = best
trials_on s len (suc d) k best = trials_on s len d (k + 1) (trial_of s len k best)

-- The best of 96 trials; a count of 0 is no line.
abbrev pub trials_of : List Float → Float → Trial
trials_of s len = trials_on s len 96 0 record { count = 0; x = 0f; y = 0f; u = 0f; v = 0f }

-- ---- the line of an edge
-- None where no line was tried or fewer points agree than 0.35 of the length; else the line refitted within 3, then 1.5.
unfoldable pub consensus_of : List Float → Edge → Line
consensus_of s e =
    let best = trials_of s e.len in
    cond (eqb best.count 0) NoLine
    (cond (lt (whole_float best.count) (0·35 ⊗ e.len)) NoLine
    (refit_of s e 3f 1·5 (Along best.x best.y best.u best.v)))

-- None under 16, or with fewer than 8 points that may belong to it.
unfoldable pub edge_line : List Float → Point → Point → Line
edge_line s a b =
    let e = edge_from a b in
    cond (lt e.len 16f) NoLine (cond (ltb (many (search_range e s)) 8) NoLine (consensus_of (search_range e s) e))

-- ---- the quad
-- A crossing whose squared distance from the corner is not above a limit: a NaN distance is not, so a NaN corner passes, which
-- `refine_quad` does not let pass.
unfoldable pub keep_corner : Crossing → Point → Float → Crossing
keep_corner (At x y) p limit = cond (lt limit (d2_of x y p)) NoCrossing (At x y)
keep_corner NoCrossing p limit = NoCrossing

-- The square of a quarter of the diagonal from a to c.
unfoldable pub limit_of : Quad → Float
limit_of q = let span = sqrt binary32 (d2_of q.a.x q.a.y q.c) in 0·25 ⊗ span ⊗ (0·25 ⊗ span)

-- Corners where the lines of neighbouring edges cross, each within the limit of q's.
abbrev pub edge_at : Quad → Line → Line → Line → Line → Option Quad
edge_at q ab bc cd da =
    corners_of
    (keep_corner (cross_of da ab) q.a (limit_of q))
    (keep_corner (cross_of ab bc) q.b (limit_of q))
    (keep_corner (cross_of bc cd) q.c (limit_of q))
    (keep_corner (cross_of cd da) q.d (limit_of q))

-- Four corners from four edges, or none.
unfoldable pub edge_quad : List Float → Quad → Option Quad
edge_quad s q =
    edge_at q (edge_line s q.a q.b) (edge_line s q.b q.c) (edge_line s q.c q.d) (edge_line s q.d q.a)
