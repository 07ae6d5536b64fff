-- What demand 3 speaks of: pictures, the condition on equal counts, and how hull and quad are worked out. Definitions only. Assumes nothing.
use Rattle.std.specs.Prelude.{◌≡◌, List, ℕ, ◌*◌, ◌≤◌, ◌<◌, length, get_or}
use Rattle.laws.specs.Plane.{Plane}
use Rattle.labels.specs.Cells.{groups_of, group_size}
use Rattle.hull.specs.Hull.{hull_points}
use Rattle.hull.specs.Quad.{quad_points}
use Rattle.doubled.specs.Outline.{hull_whole, quad_whole}

-- A picture with sides that are multiples of 16, at most `most`: one byte a pixel, row by row.
pub record Taken (most W H : ℕ) (s : List ℕ) : Type 0 where
  pub wide : 1 ≤ W
  pub wide-most : 16 * W ≤ most
  pub high : 1 ≤ H
  pub high-most : 16 * H ≤ most
  pub many : length s ≡ 16 * W * (16 * H)
  pub bytes : (i : ℕ) → i < length s → get_or s i 0 < 256

-- No two regions of 16 or more cells have equal counts.
unfoldable pub NoTies : Plane → ℕ → ℕ → Type 0
NoTies p w h =
    (a b : ℕ) → a < groups_of p w h → b < groups_of p w h
    → 16 ≤ group_size p w h a → 16 ≤ group_size p w h b → group_size p w h a ≡ group_size p w h b → a ≡ b

-- The hull of points in doubled coordinates, and the quad of a hull.
pub record Way : Type 0 where
  pub hull_of_points : List (ℕ × ℕ) → List (ℕ × ℕ)
  pub quad_of_hull : List (ℕ × ℕ) → List (ℕ × ℕ)

-- By f32 numbers, as `convex_hull` and `quad` of crate hull do.
abbrev pub in_floats : Way
in_floats = record { hull_of_points = hull_points; quad_of_hull = quad_points }

-- By whole numbers, as the doors of crates whole_hull and whole_quad do.
abbrev pub in_wholes : Way
in_wholes = record { hull_of_points = hull_whole; quad_of_hull = quad_whole }
