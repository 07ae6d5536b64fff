-- A line drawn into a plane: the pixels of a picture of w by h, one byte each, row by row. A line's ends may lie outside the picture, so
-- the numbers of a spot count from 32,768 columns to the left of the picture and from 32,768 rows above it: the pixel in column c and row r
-- is the spot (32768 + c, 32768 + r). Definitions only. Assumes nothing.
use Rattle.std.specs.Prelude.{Bool, ◌&&◌, cond, List, ℕ, zero, suc, ◌+◌, ◌-◌, ◌*◌, ◌/◌, max, eqb, leb, ltb, length, set}
use Rattle.laws.specs.Gap.{gap}
use Rattle.picture_checks.specs.Picture.{check_picture}
use Rattle.drawing.specs.declared.Spot.{Spot}

-- How far two numbers are gap.
-- The steps of a line: as many as its ends are gap in columns or in rows, whichever is more, and at least one.
unfoldable pub steps_of : Spot → Spot → ℕ
steps_of a b = max 1 (max (gap a.x b.x) (gap a.y b.y))

-- The number after k of n even steps from a to b, (a * (n - k) + b * k) / n, rounded to the nearest whole number, halves up.
unfoldable pub line_point : ℕ → ℕ → ℕ → ℕ → ℕ
line_point a b n k = (2 * (a * (n - k) + b * k) + n) / (2 * n)

-- Whether a spot's number is that of one of n columns or rows.
abbrev pub on_side : ℕ → ℕ → Bool
on_side n x = leb 32768 x && ltb (x - 32768) n

-- The plane s with the colour at the spot (x, y) where that lies in the picture, else s.
unfoldable pub dot_on : ℕ → ℕ → ℕ → ℕ → ℕ → List ℕ → List ℕ
dot_on w h x y colour s = cond (on_side w x && on_side h y) (set s ((y - 32768) * w + (x - 32768)) colour) s

-- The plane s with the first points of a line, so many of them: point k is the spot after k steps.
unfoldable pub dots_on : ℕ → ℕ → Spot → Spot → ℕ → ℕ → List ℕ → List ℕ
dots_on w h a b colour zero s = s
dots_on w h a b colour (suc k) s =
    dot_on w h (line_point a.x b.x (steps_of a b) k) (line_point a.y b.y (steps_of a b) k) colour (dots_on w h a b colour k s)

-- The plane s after a line from a to b: all its points, from 0 to the number of its steps. A plane stays where a side is outside 1..4,096
-- or its bytes are not w × h.
unfoldable pub line_on : ℕ → ℕ → Spot → Spot → ℕ → List ℕ → List ℕ
line_on w h a b colour s = cond (eqb (check_picture w h (length s) 0) 0) (dots_on w h a b colour (steps_of a b + 1) s) s
