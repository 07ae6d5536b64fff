-- Hull and quad of points in doubled coordinates, in whole numbers: the Rust's rules of `whole_tests`, worked out exactly. Definitions only.
-- Assumes nothing.
use Rattle.std.specs.Prelude.{List, map, ℕ, length, get_or}
use Rattle.whole.specs.Walk.{hull_with, whole_tests, quad_with, whole_ops}
use Rattle.hull.specs.Points.{pts_of}

-- The hull: the walk from the least x, then the least y, with exact tests.
unfoldable pub hull_whole : List (ℕ × ℕ) → List (ℕ × ℕ)
hull_whole L = map (λ i. get_or L i (0, 0)) (hull_with (whole_tests (pts_of L)) (length L))

-- The quad of a list of vertices: four corners, or no point where there is none.
unfoldable pub quad_whole : List (ℕ × ℕ) → List (ℕ × ℕ)
quad_whole L = map (λ i. get_or L i (0, 0)) (quad_with (whole_ops (pts_of L)) (length L))
