-- The outline of a region of a picture, kept or all ink: its points, and how many numbers they can have. `s` holds the picture's bytes, w
-- and h are its sides. Definitions only. Assumes nothing.
use Rattle.std.specs.Prelude.{ℕ, ◌+◌, ◌*◌, ◌≤◌, ◌<◌, List, length}
use Rattle.regions.specs.Regions.{box_in}
use Rattle.laws.specs.Plane.{Plane, plane, Alike}
use Rattle.levels.specs.Level.{cells, level}
use Rattle.labels.specs.Cells.{cells8, cells_of, label_at}
use Rattle.regions.specs.declared.answer.Region.{Region}
use Rattle.boundary.specs.Boundary.{is_member, boundary}

-- The boundary points of a region r of the picture p: of its label, in its box. The label 0 is all ink.
abbrev pub region_points : Plane → ℕ → ℕ → Region → List (ℕ × ℕ)
region_points p w h r = boundary 4 (is_member p w h r.label) (box_in r)

-- What an outline of a whole picture can need: so many numbers.
abbrev pub need_of : ℕ → ℕ → ℕ
need_of w h = 4 * (w + h)

-- Lists that hold a picture's thresholds and its labels.
pub record Gridded (s : List ℕ) (w h : ℕ) (levels labels : List ℕ) : Type 0 where
  pub level_room : cells w * cells h ≤ length levels
  pub region_room : cells_of w h ≤ length labels
  pub levels_are : Alike (cells w) (cells h) (plane (cells w) levels) (level (plane w s) w h)
  pub labels_are : Alike (cells8 w) (cells8 h) (plane (cells8 w) labels) (label_at (plane w s) w h)

-- A region whose box is not empty and lies in a picture of w by h.
pub record Boxed (w h : ℕ) (r : Region) : Type 0 where
  pub across : r.x0 < r.x1
  pub down : r.y0 < r.y1
  pub right : r.x1 ≤ w
  pub bottom : r.y1 ≤ h
