-- Member pixels and boundary points, by rules 9 to 13 and rules 16 and 17. Points are in doubled coordinates,
-- so that centres and edges of pixels are whole numbers. Definitions only. Assumes nothing.
use Rattle.std.specs.Prelude.{Bool, ◌&&◌, ◌||◌, not, List, ◌++◌, map, ℕ, ◌+◌, ◌-◌, ◌*◌, ◌/◌, eqb}
use Rattle.laws.specs.Fold.{joined}
use Rattle.laws.specs.Plane.{Plane, plane}
use Rattle.laws.specs.Move.{Box}
use Rattle.levels.specs.Level.{cells, level, ink_of}
use Rattle.labels.specs.Cells.{cells8, label_at}
use Rattle.regions.specs.Boxes.{region_box}
use Rattle.boundary.specs.Runs.{edges}

-- A label counts: it is not 0 and, where one label is wanted, is that one. The label 0 wants any.
abbrev pub counts : ℕ → ℕ → Bool
counts want label = not (eqb label 0) && (eqb want 0 || eqb label want)

-- A member pixel is ink, in a cell whose label counts: of planes of pixels, of thresholds and of labels.
unfoldable pub member_of : ℕ → Plane → Plane → Plane → ℕ → ℕ → Bool
member_of want pixel levels labels x y = ink_of pixel levels x y && counts want (labels (x / 8) (y / 8))

-- The same of a picture p of w by h, with its own thresholds and labels.
unfoldable pub is_member : Plane → ℕ → ℕ → ℕ → ℕ → ℕ → Bool
is_member p w h want = member_of want p (level p w h) (label_at p w h)

-- The same of lists: the bytes s of a picture of width w, row by row, its thresholds and its labels.
unfoldable pub member_at : ℕ → ℕ → List ℕ → List ℕ → List ℕ → ℕ → ℕ → Bool
member_at want w s levels labels = member_of want (plane w s) (plane (cells w) levels) (plane (cells8 w) labels)

-- A point on row y, and a point on column x.
abbrev pub on_row : ℕ → ℕ → ℕ × ℕ
on_row y x = (x, y)

abbrev pub on_column : ℕ → ℕ → ℕ × ℕ
on_column x y = (x, y)

-- The points of row y, of which n pixels from x0 on are looked at, and of column x, of which n pixels from y0 on are; t says which pixels
-- are members.
unfoldable pub row_points : ℕ → (ℕ → ℕ → Bool) → ℕ → ℕ → ℕ → List (ℕ × ℕ)
row_points k t x0 n y = map (on_row (2 * y + 1)) (edges k n (λ i. t (x0 + i) y) x0)

unfoldable pub column_points : ℕ → (ℕ → ℕ → Bool) → ℕ → ℕ → ℕ → List (ℕ × ℕ)
column_points k t y0 n x = map (on_column (2 * x + 1)) (edges k n (λ j. t x (y0 + j)) y0)

-- The points of m such rows from y0 on, and of m such columns from x0 on.
unfoldable pub rows_from : ℕ → (ℕ → ℕ → Bool) → ℕ → ℕ → ℕ → ℕ → List (ℕ × ℕ)
rows_from k t x0 n y0 m = joined m (λ j. row_points k t x0 n (y0 + j))

unfoldable pub columns_from : ℕ → (ℕ → ℕ → Bool) → ℕ → ℕ → ℕ → ℕ → List (ℕ × ℕ)
columns_from k t y0 n x0 m = joined m (λ i. column_points k t y0 n (x0 + i))

-- The points of a box: all its rows, then all its columns.
unfoldable pub boundary : ℕ → (ℕ → ℕ → Bool) → Box → List (ℕ × ℕ)
boundary k t b =
    rows_from k t b.x0 (b.x1 - b.x0) b.y0 (b.y1 - b.y0) ++ columns_from k t b.y0 (b.y1 - b.y0) b.x0 (b.x1 - b.x0)

-- The boundary points of the region with the label l, in a picture p of w by h.
unfoldable pub outline_of : ℕ → Plane → ℕ → ℕ → ℕ → List (ℕ × ℕ)
outline_of k p w h l = boundary k (is_member p w h l) (region_box p w h l)
