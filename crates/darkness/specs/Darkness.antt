-- Ink pixels counted over boxes, and the table of running counts, as the request on the darkness of many boxes has them. A plane f has 1 at
-- each ink pixel and 0 elsewhere. Definitions only. Assumes nothing.
use Rattle.std.specs.Prelude.{List, ℕ, ◌+◌, ◌*◌, ◌-◌, get_or}
use Rattle.laws.specs.Fold.{bit}
use Rattle.laws.specs.Plane.{Plane, plane, box}
use Rattle.levels.specs.Level.{cells, ink_of}

-- 1 where the pixel at x and y is ink, else 0: of the bytes s of a picture of width w, by the thresholds of a lent level grid.
unfoldable pub ink_bit : ℕ → List ℕ → List ℕ → Plane
ink_bit w s levels x y = bit (ink_of (plane w s) (plane (cells w) levels) x y)

-- How many ink pixels a box has, counted pixel by pixel: from (x0, y0), which is within, to (x1, y1), which is not.
unfoldable pub ink_in : Plane → ℕ → ℕ → ℕ → ℕ → ℕ
ink_in f x0 y0 x1 y1 = box ◌+◌ 0 f x0 y0 (x1 - x0) (y1 - y0)

-- How many ink pixels have a column below x and a row below y: place (x, y) of the table.
unfoldable pub ink_before : Plane → Plane
ink_before f x y = box ◌+◌ 0 f 0 0 x y

-- Number k of box i in a list of boxes: x0, y0, x1, y1 by fours.
abbrev pub box_number : List ℕ → ℕ → ℕ → ℕ
box_number boxes i k = get_or boxes (4 * i + k) 0

-- How many ink pixels box i of a list has.
unfoldable pub box_ink : Plane → List ℕ → ℕ → ℕ
box_ink f boxes i = ink_in f (box_number boxes i 0) (box_number boxes i 1) (box_number boxes i 2) (box_number boxes i 3)
