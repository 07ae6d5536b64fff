-- The coefficient of a lens that one edge tells of, with its standard error, as ring.rs measures it in `estimate_lens` for rules 21 to 25. Definitions only. Assumes nothing.
use Rattle.std.specs.Prelude.{Bool, cond, ◌&&◌, List, Float, Option, Some, None}
use Rattle.std.specs.Float.Ieee.{lt, le, neg}
use Rattle.ieee.specs.Ops.{abs, max}
use Rattle.ieee.specs.Constants.{0f, 0·05, 0·1, 0·3, 0·9}
use Rattle.hull.specs.Points.{many}
use Rattle.hull.specs.declared.points.Point.{Point}
use Rattle.fit.specs.F32.{◌⊕◌, ◌⊖◌, ◌⊗◌, ◌⊘◌, whole_float, 16f, least_normal}
use Rattle.fit.specs.Select.{Rule, points_by, along_edge, within}
use Rattle.fit.specs.Corner.{edge_from}
use Rattle.fit.specs.declared.line.Edge.{Edge}
use Rattle.lens.specs.Bow.{two_fits}
use Rattle.lens.specs.declared.bow.Bow.{Bow}
use Rattle.lens.specs.declared.measure.Side.{Side}
use Rattle.lens.specs.declared.measure.Slope.{Slope}

-- How far an edge's line is from the centre m, by its normal (uy, −ux): below 0 where the centre is on that side.
abbrev pub height_over : Edge → Point → Float
height_over e m = (e.ax ⊖ m.x) ⊗ e.uy ⊕ (e.ay ⊖ m.y) ⊗ neg e.ux

-- That distance, and the normal away from the centre.
unfoldable pub edge_side : Edge → Point → Side
edge_side e m =
    cond (lt (height_over e m) 0f)
    record { h = height_over e m; nx = neg e.uy; ny = neg (neg e.ux) }
    record { h = height_over e m; nx = e.uy; ny = neg e.ux }

-- How far a point is outward of an edge.
abbrev pub outward_of : Edge → Side → Float → Float → Float
outward_of e d x y = (x ⊖ e.ax) ⊗ d.nx ⊕ (y ⊖ e.ay) ⊗ d.ny

-- From 0.1 to 0.9 along an edge, and off it by at most 0.05 of its length.
unfoldable pub bow_near : Edge → Float → Float → Bool
bow_near e t o = within 0·1 0·9 t && le (abs o) (0·05 ⊗ e.len)

-- A point that is kept as a sample: how far along, how far outward.
abbrev pub sample_near : Edge → Side → Float → Float → Bool
sample_near e d x y = bow_near e (along_edge e x y) (outward_of e d x y)

abbrev pub sample_rule : Edge → Side → Rule
sample_rule e d = record { keep = sample_near e d; first = along_edge e; second = outward_of e d }

-- An edge's samples.
abbrev pub samples_of : Edge → Side → List Float → List Float
samples_of e d s = points_by (sample_rule e d) s

-- κ = a / (h·L²) of a bow a, and its standard error, at least the least positive f32 of full precision. An edge through the centre has
-- h = 0: its κ is infinite or a NaN, and where its error is 0 too, 0 / 0 counts as that least one.
unfoldable pub bent_of : Edge → Side → Option Bow → Option Slope
bent_of e d (Some b) =
    let w = abs d.h ⊗ e.len ⊗ e.len in
    Some record { k = b.a ⊘ w; se = max (b.error ⊘ w) least_normal }
bent_of e d None = None

-- The measure of the edge from a to b: none under 16, with fewer samples than 0.3 of its length, or without a bow.
unfoldable pub measure_of : List Float → Point → Point → Point → Option Slope
measure_of s a b m =
    let e = edge_from a b in
    let d = edge_side e m in
    let p = samples_of e d s in
    cond (lt e.len 16f) None
    (cond (lt (whole_float (many p)) (0·3 ⊗ e.len)) None (bent_of e d (two_fits p)))
