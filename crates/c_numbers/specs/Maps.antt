-- A transform as the eleven numbers that C functions take and give, and what is left where there may be none. Definitions only.
-- Assumes nothing.
use Rattle.std.specs.Prelude.{List, [], ◌∷◌, ℕ, ◌+◌, ◌*◌, get_or, Float, Option, Ok}
use Rattle.std.specs.Float.{nan}
use Rattle.hull.specs.Points.{many}
use Rattle.laws.specs.Fold.{joined}
use Rattle.math.specs.Lists.{number_at}
use Rattle.laws.specs.Said.{result_of, left_by}
use Rattle.transform.specs.Mapping.{applied, eleven_of}
use Rattle.transform.specs.declared.Transform.{Transform}
use Rattle.refusal.specs.Numbers.{said_some}

-- The transform of eleven numbers: coefficients m0 to m7, then the lens cx, cy, kappa.
abbrev pub map_of : List Float → Transform
map_of s = record {
  m0 = get_or s 0 nan;
  m1 = get_or s 1 nan;
  m2 = get_or s 2 nan;
  m3 = get_or s 3 nan;
  m4 = get_or s 4 nan;
  m5 = get_or s 5 nan;
  m6 = get_or s 6 nan;
  m7 = get_or s 7 nan;
  cx = get_or s 8 nan;
  cy = get_or s 9 nan;
  kappa = get_or s 10 nan;
}

-- The eleven numbers of a transform.
-- The result where a transform may be none, and what is left of a list of eleven.
abbrev pub mapped_result : Option Transform → ℕ
mapped_result a = result_of (said_some (Ok a))

abbrev pub mapped_after : Option Transform → List Float → List Float
mapped_after a old = left_by eleven_of (said_some (Ok a)) old

-- ---- many places
-- The pixel of place i of a list, u and v by turns: its x and y.
abbrev pub pixel_at : Transform → List Float → ℕ → List Float
pixel_at t s i = (applied t (number_at s (2 * i)) (number_at s (2 * i + 1))).x ∷ (applied t (number_at s (2 * i)) (number_at s (2 * i + 1))).y ∷ []

-- The pixels of the first n places, and of all; an odd last number is left out.
abbrev pub pixels_to : Transform → List Float → ℕ → List Float
pixels_to t s n = joined n (pixel_at t s)

abbrev pub mapped_pixels : Transform → List Float → List Float
mapped_pixels t s = pixels_to t s (many s)
