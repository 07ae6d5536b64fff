-- Ink cells and their labels, by rules 9 to 13. Definitions only. Assumes nothing.
use Rattle.std.specs.Prelude.{Bool, ◌&&◌, ℕ, suc, ◌+◌, ◌-◌, ◌*◌, ◌/◌, ◌%◌, min, leb, ltb, eqb}
use Rattle.laws.specs.Fold.{bit}
use Rattle.laws.specs.Plane.{Plane, box}
use Rattle.laws.specs.Count.{count}
use Rattle.levels.specs.Level.{ink_at}
use Rattle.labels.specs.Labels.{near, first?, label}

-- How many cells of 8 a side of n pixels has, and how many pixels of it cell c has.
abbrev pub cells8 : ℕ → ℕ
cells8 n = (n + 7) / 8

abbrev pub span8 : ℕ → ℕ → ℕ
span8 n c = min 8 (n - 8 * c)

-- How many pixels of cell (cx, cy) are ink, in a picture p of w by h.
unfoldable pub ink_pixels : Plane → ℕ → ℕ → Plane
ink_pixels p w h cx cy = box ◌+◌ 0 (λ x y. bit (ink_at p w h x y)) (8 * cx) (8 * cy) (span8 w cx) (span8 h cy)

-- Cell (x, y) of a grid in rows of w cells, as a number in row order.
unfoldable pub cell : ℕ → ℕ → ℕ → ℕ
cell w x y = y * w + x

-- How many cells a picture of w by h has.
abbrev pub cells_of : ℕ → ℕ → ℕ
cells_of w h = cells8 h * cells8 w

-- An ink cell has at least 4 ink pixels. c is a cell in row order.
unfoldable pub ink_cell : Plane → ℕ → ℕ → ℕ → Bool
ink_cell p w h c = ltb c (cells_of w h) && leb 4 (ink_pixels p w h (c % cells8 w) (c / cells8 w))

-- The label of cell c, and of the cell in column x and row y.
unfoldable pub cell_label : Plane → ℕ → ℕ → ℕ → ℕ
cell_label p w h c = label (ink_cell p w h) (near (cells8 w)) (cells_of w h) c

unfoldable pub label_at : Plane → ℕ → ℕ → ℕ → ℕ → ℕ
label_at p w h x y = cell_label p w h (cell (cells8 w) x y)

-- How many groups there are, and how many cells the group with the label i + 1 has.
unfoldable pub groups_of : Plane → ℕ → ℕ → ℕ
groups_of p w h = count (first? (ink_cell p w h) (near (cells8 w)) (cells_of w h)) (cells_of w h)

unfoldable pub group_size : Plane → ℕ → ℕ → ℕ → ℕ
group_size p w h i = count (λ c. eqb (cell_label p w h c) (suc i)) (cells_of w h)
