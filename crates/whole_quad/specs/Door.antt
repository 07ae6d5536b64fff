-- The door of the quad in whole numbers: what it answers. Definitions only. Assumes nothing.
use Rattle.std.specs.Prelude.{List, [], ◌∷◌, ℕ, zero, suc, get_or, Option, Some, None, Ok}
use Rattle.laws.specs.Said.{Said, refuse}
use Rattle.refusal.specs.Numbers.{said_some}
use Rattle.doubled.specs.Points.{pairs_of}
use Rattle.doubled.specs.Outline.{quad_whole}
use Rattle.doubled.specs.Checks.{check_quad}
use Rattle.whole_quad.specs.declared.corners.Point.{Point}
use Rattle.whole_quad.specs.declared.corners.Quad.{Quad}

-- A point by its coordinates.
abbrev pub pair_point : ℕ × ℕ → Point
pair_point q = record { x = q.0; y = q.1 }

-- The quad with these corners; none where there is no corner.
unfoldable pub quad_of_pairs : List (ℕ × ℕ) → Option Quad
quad_of_pairs [] = None
quad_of_pairs (a ∷ l) = Some (record {
  a = pair_point a;
  b = pair_point (get_or l 0 (0, 0));
  c = pair_point (get_or l 1 (0, 0));
  d = pair_point (get_or l 2 (0, 0));
})

-- A quad, none, or the number of a refusal.
unfoldable pub quad_by : ℕ → List (ℕ × ℕ) → Said Quad
quad_by zero corners = said_some (Ok (quad_of_pairs corners))
quad_by (suc n) corners = refuse (suc n)

abbrev pub quad_answer : List ℕ → Said Quad
quad_answer p = quad_by (check_quad p) (quad_whole (pairs_of p))

-- The numbers of a quad: x and y of its four corners.
unfoldable pub quad_numbers : Quad → List ℕ
quad_numbers q = q.a.x ∷ q.a.y ∷ q.b.x ∷ q.b.y ∷ q.c.x ∷ q.c.y ∷ q.d.x ∷ q.d.y ∷ []
