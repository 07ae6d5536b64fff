-- The transform from module space to pixels, by rules 26 and 27: eight f64 coefficients and three f64 lens numbers,
-- any f32 corners. Definitions only. Assumes nothing.
use Rattle.std.specs.Prelude.{cond, List, [], ◌∷◌, from_bits, Float, Option, Some, None}
use Rattle.std.specs.Float.{nan, binary64}
use Rattle.std.specs.Float.Ieee.{add, sub, mul, div, neg, lt, eq}
use Rattle.ieee.specs.Narrow.{narrow}
use Rattle.ieee.specs.Ops.{abs}
use Rattle.ieee.specs.Constants.{1e-9, 1d}
use Rattle.math.specs.Lists.{number_at}
use Rattle.math.specs.Equations.{solution}
use Rattle.transform.specs.declared.Transform.{Transform}
use Rattle.transform.specs.declared.Pixel.{Pixel}
use Rattle.transform.specs.declared.Place.{Place}

-- +0
abbrev pub zero : Float
zero = from_bits binary64 0

-- 1
-- ---- four corners to four others
-- the two equations of a corner: (u, v) goes to (x, y)
abbrev pub corner_rows : Float → Float → Float → Float → List Float → List Float
corner_rows u v x y rest =
    u ∷ v ∷ 1d ∷ zero ∷ zero ∷ zero ∷ mul binary64 (neg x) u ∷ mul binary64 (neg x) v
    ∷ zero ∷ zero ∷ zero ∷ u ∷ v ∷ 1d ∷ mul binary64 (neg y) u ∷ mul binary64 (neg y) v ∷ rest

-- the equations of four corners, whose x and y alternate
unfoldable pub matrix : List Float → List Float → List Float
matrix s d =
    corner_rows (number_at s 0) (number_at s 1) (number_at d 0) (number_at d 1)
    (corner_rows (number_at s 2) (number_at s 3) (number_at d 2) (number_at d 3)
    (corner_rows (number_at s 4) (number_at s 5) (number_at d 4) (number_at d 5)
    (corner_rows (number_at s 6) (number_at s 7) (number_at d 6) (number_at d 7) [])))

-- the eight numbers of four corners
abbrev pub numbers : List Float → List Float
numbers d = number_at d 0 ∷ number_at d 1 ∷ number_at d 2 ∷ number_at d 3 ∷ number_at d 4 ∷ number_at d 5 ∷ number_at d 6 ∷ number_at d 7 ∷ []

-- eight coefficients, and no lens
abbrev pub homography : List Float → Transform
homography x = record {
  m0 = number_at x 0;
  m1 = number_at x 1;
  m2 = number_at x 2;
  m3 = number_at x 3;
  m4 = number_at x 4;
  m5 = number_at x 5;
  m6 = number_at x 6;
  m7 = number_at x 7;
  cx = zero;
  cy = zero;
  kappa = zero;
}

-- the transform of a solution, or none
abbrev pub from_solution : Option (List Float) → Option Transform
from_solution (Some x) = Some (homography x)
from_solution None = None

-- the transform that takes the corners s to the corners d, or none
unfoldable pub from_quad : List Float → List Float → Option Transform
unfolding matrix solution
from_quad s d = from_solution (solution 8 (matrix s d) (numbers d))

-- ---- the lens
-- the same coefficients with a lens
abbrev pub with_radial : Transform → Float → Float → Float → Transform
with_radial t cx cy kappa = record {
  m0 = t.m0;
  m1 = t.m1;
  m2 = t.m2;
  m3 = t.m3;
  m4 = t.m4;
  m5 = t.m5;
  m6 = t.m6;
  m7 = t.m7;
  cx = cx;
  cy = cy;
  kappa = kappa;
}

-- 1d round towards the sensor's offset whose straightened offset is u
unfoldable pub bent : Float → Place → Place → Place
unfolding div mul add
bent k u d =
    let s = add binary64 1d (mul binary64 k (add binary64 (mul binary64 d.x d.x) (mul binary64 d.y d.y))) in
    record { x = div binary64 u.x s; y = div binary64 u.y s }

-- four rounds from the straightened offset u
unfoldable pub four_rounds : Float → Place → Place
unfolding bent
four_rounds k u = bent k u (bent k u (bent k u (bent k u u)))

-- about the centre (cx, cy)
unfoldable pub about_centre : Float → Float → Float → Place → Place
unfolding four_rounds
about_centre cx cy k p =
    let d = four_rounds k record { x = sub binary64 p.x cx; y = sub binary64 p.y cy } in
    record { x = add binary64 cx d.x; y = add binary64 cy d.y }

-- through the lens, if there is 1d
unfoldable pub through_lens : Float → Float → Float → Place → Place
unfolding about_centre eq
through_lens cx cy k p = cond (eq k zero) p (about_centre cx cy k p)

-- ---- a place's pixel
-- a divisor kept away from 0: a magnitude below 1e-9 becomes 1e-9, whatever the sign; a NaN stays
unfoldable pub guarded : Float → Float
unfolding abs lt
guarded w = cond (lt (abs w) 1e-9) 1e-9 w

-- a * u + b * v + c
abbrev pub plane_place : Float → Float → Float → Float → Float → Float
plane_place a b c u v = add binary64 (add binary64 (mul binary64 a u) (mul binary64 b v)) c

-- (m0 u + m1 v + m2, m3 u + m4 v + m5) / (m6 u + m7 v + 1)
unfoldable pub flat_place : Transform → Float → Float → Place
unfolding guarded
flat_place t u v =
    let w = guarded (plane_place t.m6 t.m7 1d u v) in
    record { x = div binary64 (plane_place t.m0 t.m1 t.m2 u v) w; y = div binary64 (plane_place t.m3 t.m4 t.m5 u v) w }

-- each coordinate rounded to f32
abbrev pub rounded : Place → Pixel
rounded p = record { x = narrow p.x; y = narrow p.y }

-- the place of (u, v), through the lens, rounded
unfoldable pub applied : Transform → Float → Float → Pixel
unfolding flat_place through_lens narrow
applied t u v = rounded (through_lens t.cx t.cy t.kappa (flat_place t u v))

-- no place at all: what a NaN gives
abbrev pub no_pixel : Pixel
no_pixel = record { x = nan; y = nan }

-- A transform's eleven numbers: its matrix, the lens's centre and its coefficient.
abbrev pub eleven_of : Transform → List Float
eleven_of t =
    t.m0 ∷ t.m1 ∷ t.m2 ∷ t.m3 ∷ t.m4 ∷ t.m5 ∷ t.m6 ∷ t.m7 ∷ t.cx ∷ t.cy ∷ t.kappa ∷ []
