-- The lens that a ring's four edges tell of, in two passes, by rules 21 to 25 and ring.rs in
-- `estimate_lens`. Definitions only. Assumes nothing.
use Rattle.std.specs.Prelude.{Bool, cond, not, ◌&&◌, ◌||◌, List, [], ◌∷◌, Float, Option, Some, None}
use Rattle.std.specs.Float.Ieee.{lt, eq}
use Rattle.ieee.specs.Ops.{abs, max, finite}
use Rattle.ieee.specs.Constants.{0f, 0·004, 1f}
use Rattle.math.specs.Lists.{number_at}
use Rattle.hull.specs.Hull.{hull_floats}
use Rattle.hull.specs.Quad.{quad_floats}
use Rattle.hull.specs.declared.points.Point.{Point}
use Rattle.hull.specs.declared.points.Quad.{Quad}
use Rattle.fit.specs.F32.{◌⊕◌, ◌⊖◌, ◌⊗◌, ◌⊘◌, 0·25, 3f}
use Rattle.fit.specs.Line.{point_of}
use Rattle.fit.specs.Corner.{d2_of}
use Rattle.lens.specs.Straight.{straight_of}
use Rattle.lens.specs.Measure.{measure_of}
use Rattle.lens.specs.declared.straight.Lens.{Lens}
use Rattle.lens.specs.declared.measure.Slope.{Slope}
use Rattle.lens.specs.declared.estimate.Slopes.{Slopes}
use Rattle.lens.specs.declared.estimate.Pass.{Pass}

-- ---- four edges
-- The four measures, or none where one is none.
unfoldable pub measures_of : Option Slope → Option Slope → Option Slope → Option Slope → Option Slopes
measures_of (Some a) (Some b) (Some c) (Some d) = Some record { a = a; b = b; c = c; d = d }
measures_of (Some a) (Some b) (Some c) None = None
measures_of (Some a) (Some b) None d = None
measures_of (Some a) None c d = None
measures_of None b c d = None

-- The measure of an edge, or none where that of the edge before it is none.
abbrev pub after_measure : Option Slope → Option Slope → Option Slope
after_measure (Some f) measure = measure
after_measure None measure = None

-- The four measures of a quad.
abbrev pub quad_measures : List Float → Quad → Point → Option Slopes
quad_measures s q m =
    measures_of (measure_of s q.a q.b m) (measure_of s q.b q.c m) (measure_of s q.c q.d m) (measure_of s q.d q.a m)

-- The weight 1 / se² of a measure, and its share κ / se² of the mean.
abbrev pub weight : Slope → Float
weight f = 1f ⊘ (f.se ⊗ f.se)

abbrev pub weight_share : Slope → Float
weight_share f = f.k ⊘ (f.se ⊗ f.se)

-- The sums of both, from 0, in the edges' order.
abbrev pub weights : Slopes → Float
weights t = 0f ⊕ weight t.a ⊕ weight t.b ⊕ weight t.c ⊕ weight t.d

abbrev pub shares : Slopes → Float
shares t = 0f ⊕ weight_share t.a ⊕ weight_share t.b ⊕ weight_share t.c ⊕ weight_share t.d

-- The weighted mean κ.
abbrev pub mean_slope : Slopes → Float
mean_slope t = shares t ⊘ weights t

-- An edge agrees where its κ is not more than three of its standard errors and a quarter of the total off the mean; a NaN is not more.
unfoldable pub agrees : Float → Float → Slope → Bool
agrees step total f = not (lt (3f ⊗ f.se ⊕ 0·25 ⊗ total) (abs (f.k ⊖ step)))

-- All four agree.
abbrev pub all_agree : Float → Float → Slopes → Bool
all_agree step total t =
    agrees step total t.a && (agrees step total t.b && (agrees step total t.c && agrees step total t.d))

-- The greatest of a reach and the corners' squared distances from the centre.
unfoldable pub corner_reach : Quad → Point → Float → Float
corner_reach q m reach =
    max (max (max (max reach (d2_of q.a.x q.a.y m)) (d2_of q.b.x q.b.y m)) (d2_of q.c.x q.c.y m))
    (d2_of q.d.x q.d.y m)

-- ---- a pass
-- What a pass leaves: a coefficient and a reach.
abbrev pub pass_at : Float → Float → Pass
pass_at kappa reach = record { kappa = kappa; reach = reach }

-- κ with the mean added, or none where the weights are 0 or not finite, or an edge disagrees. Agreement is by the total |κ + step|.
unfoldable pub slope_step : Slopes → Float → Float → Option Pass
slope_step t kappa reach =
    cond (eq (weights t) 0f || not (finite (weights t))) None
    (cond (all_agree (mean_slope t) (abs (kappa ⊕ mean_slope t)) t) (Some (pass_at (kappa ⊕ mean_slope t) reach)) None)

-- None without four measures.
unfoldable pub step_by : Option Slopes → Float → Float → Option Pass
step_by (Some t) kappa reach = slope_step t kappa reach
step_by None kappa reach = None

-- A pass over points with their quad: none without a quad. `reach` is the greatest over both passes.
unfoldable pub lens_pass : List Float → Option Quad → Point → Float → Float → Option Pass
lens_pass s (Some q) m kappa reach = step_by (quad_measures s q m) kappa (corner_reach q m reach)
lens_pass s None m kappa reach = None

-- ---- the estimate
-- The quad of the eight numbers of its corners; none of no numbers.
abbrev pub quad_from : List Float → Option Quad
quad_from [] = None
quad_from (x ∷ l) =
    Some record { a = point_of x (number_at l 0); b = point_of (number_at l 1) (number_at l 2); c = point_of (number_at l 3) (number_at l 4); d = point_of (number_at l 5) (number_at l 6) }

-- The quad of the points' hull.
abbrev pub hull_quad : List Float → Option Quad
hull_quad s = quad_from (quad_floats (hull_floats s))

-- The lens about m of a coefficient.
abbrev pub lens_at : Point → Float → Lens
lens_at m k = record { x = m.x; y = m.y; k = k }

-- The second pass: over the points straightened by the first one's κ and their quad; over the points and quad as they are where that κ
-- is 0. A κ that is a NaN leaves no quad, so it ends without a lens.
unfoldable pub second_of : List Float → Option Quad → Point → Option Pass → Option Pass
second_of s raw m (Some p) =
    let straight = straight_of (lens_at m p.kappa) s in
    cond (eq p.kappa 0f) (lens_pass s raw m p.kappa p.reach) (lens_pass straight (hull_quad straight) m p.kappa p.reach)
second_of s raw m None = None

-- The lens of the last pass: κ = 0 without one, or where |κ·reach| is below 0.004.
unfoldable pub lens_end : Point → Option Pass → Lens
lens_end m (Some p) = cond (lt (abs (p.kappa ⊗ p.reach)) 0·004) (lens_at m 0f) (lens_at m p.kappa)
lens_end m None = lens_at m 0f

-- The lens about m that the points and their quad tell of; κ = 0 where they tell of none.
unfoldable pub lens_of : List Float → Option Quad → Point → Lens
lens_of s raw m = lens_end m (second_of s raw m (lens_pass s raw m 0f 0f))
