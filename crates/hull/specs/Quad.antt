-- The quad of a hull, by rules 18 to 20: the farthest pair and the farthest point on either side of it,
-- clockwise, with f32 tests, on any input. Definitions only. Assumes nothing.
use Rattle.std.specs.Prelude.{not, List, [], ◌∷◌, map, ℕ, length, get_or, Float, Option, Some, None}
use Rattle.std.specs.Float.{binary32}
use Rattle.std.specs.Float.Ieee.{of_bits, add, sub, mul, lt, le}
use Rattle.ieee.specs.Constants.{0f}
use Rattle.laws.specs.Said.{Said, none, give}
use Rattle.whole.specs.Walk.{Ops, quad_with}
use Rattle.hull.specs.Points.{many, x_at, y_at, points_at, floats_of}
use Rattle.hull.specs.Hull.{cross_at, d2_at}
use Rattle.hull.specs.declared.points.Quad.{Quad}

-- The number -1 as an f32, below every squared distance.
abbrev pub minus_one : Float
minus_one = of_bits binary32 0xbf80_0000

-- A term of the area, and the area of a b c d twice, summed from its first term.
unfoldable pub lace_at : List Float → ℕ → ℕ → Float
lace_at l a b = sub binary32 (mul binary32 (x_at l a) (y_at l b)) (mul binary32 (x_at l b) (y_at l a))

unfoldable pub area_at : List Float → ℕ → ℕ → ℕ → ℕ → Float
area_at l a b c d = add binary32 (add binary32 (add binary32 (lace_at l a b) (lace_at l b c)) (lace_at l c d)) (lace_at l d a)

-- What the search for the quad reads. The corners go the other way round where the area is not at least 0, as a NaN is not.
abbrev pub quad_ops : List Float → Ops Float
quad_ops l = record { low = minus_one; nil = 0f; less = lt; d = d2_at l; side = cross_at l; quad_area = area_at l; back = λ z. not (le 0f z) }

-- The numbers in the list of the quad's corners, of n vertices; none where there is no quad.
unfoldable pub quad_of : List Float → ℕ → List ℕ
quad_of l n = quad_with (quad_ops l) n

-- The quad of a list of vertices: the numbers of its corners.
abbrev pub quad_floats : List Float → List Float
quad_floats l = points_at l (quad_of l (many l))

-- The quad of vertices in doubled coordinates.
unfoldable pub quad_points : List (ℕ × ℕ) → List (ℕ × ℕ)
quad_points L = map (λ i. get_or L i (0, 0)) (quad_of (floats_of L) (length L))

-- The numbers of an answer: x and y of its four corners, or nothing.
unfoldable pub values_of : Option Quad → List Float
values_of (Some q) = q.a.x ∷ q.a.y ∷ q.b.x ∷ q.b.y ∷ q.c.x ∷ q.c.y ∷ q.d.x ∷ q.d.y ∷ []
values_of None = []

-- What a quad says, by the numbers of its corners: these, or none.
abbrev pub quad_said : List Float → Said (List Float)
quad_said [] = none
quad_said (x ∷ xs) = give (x ∷ xs)
