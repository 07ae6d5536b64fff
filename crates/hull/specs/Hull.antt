-- The hull of a list of f32 points, by rules 18 to 20: the Rust's walk with f32 tests, on any input, NaN and -0
-- included. It starts at the least x, then the least y, by total order. Definitions only. Assumes nothing.
use Rattle.std.specs.Prelude.{Bool, not, ◌&&◌, ◌||◌, List, map, ℕ, length, get_or, Float}
use Rattle.std.specs.Float.{binary32}
use Rattle.std.specs.Float.Ieee.{lt, eq}
use Rattle.ieee.specs.Constants.{0f}
use Rattle.ieee.specs.Ops.{before}
use Rattle.ieee.specs.Cross.{cross, d2}
use Rattle.whole.specs.Walk.{Tests, hull_with}
use Rattle.hull.specs.Points.{many, x_at, y_at, points_at, floats_of}

-- The turn from point o over a to b, and the squared distance of a and b.
unfoldable pub cross_at : List Float → ℕ → ℕ → ℕ → Float
cross_at l o a b = cross binary32 (x_at l o) (y_at l o) (x_at l a) (y_at l a) (x_at l b) (y_at l b)

unfoldable pub d2_at : List Float → ℕ → ℕ → Float
d2_at l a b = d2 binary32 (x_at l a) (y_at l a) (x_at l b) (y_at l b)

-- Seen from c, i is to replace n: it lies to the left of the way to n, or on it and farther.
unfoldable pub better_at : List Float → ℕ → ℕ → ℕ → Bool
better_at l c n i = lt (cross_at l c n i) 0f || (eq (cross_at l c n i) 0f && lt (d2_at l c n) (d2_at l c i))

-- i comes before n: less x, or the same and less y, by total order.
unfoldable pub lower_at : List Float → ℕ → ℕ → Bool
lower_at l i n = before (x_at l i) (x_at l n) || (not (before (x_at l n) (x_at l i)) && before (y_at l i) (y_at l n))

-- i and j have equal coordinates.
unfoldable pub same_at : List Float → ℕ → ℕ → Bool
same_at l i j = eq (x_at l i) (x_at l j) && eq (y_at l i) (y_at l j)

-- The tests of the walk.
abbrev pub hull_tests : List Float → Tests
hull_tests l = record { better = better_at l; low = lower_at l; eq = same_at l }

-- The numbers in the list of the hull's vertices, of n points.
unfoldable pub hull_of : List Float → ℕ → List ℕ
hull_of l n = hull_with (hull_tests l) n

-- The hull of a list of points: the numbers of its vertices.
abbrev pub hull_floats : List Float → List Float
hull_floats l = points_at l (hull_of l (many l))

-- The hull of points in doubled coordinates.
unfoldable pub hull_points : List (ℕ × ℕ) → List (ℕ × ℕ)
hull_points L = map (λ i. get_or L i (0, 0)) (hull_of (floats_of L) (length L))
