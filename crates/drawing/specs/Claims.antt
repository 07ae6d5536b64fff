-- Statements of theorems on lines. Assumes nothing.
use Rattle.std.specs.Prelude.{◌≡◌, ◌⊎◌, List, ℕ, ◌+◌, ◌≤◌, ◌<◌, min, max, length}
use Rattle.laws.specs.Plane.{plane}
use Rattle.picture_checks.specs.Picture.{Sides}
use Rattle.laws.specs.Gap.{gap}
use Rattle.drawing.specs.Lines.{steps_of, line_point, line_on}
use Rattle.drawing.specs.declared.Spot.{Spot}

-- The pixel in column c and row r is point k of the line from a to b.
pub record IsPoint (a b : Spot) (k c r : ℕ) : Type 0 where
  pub early : k ≤ steps_of a b
  pub column : line_point a.x b.x (steps_of a b) k ≡ 32768 + c
  pub row : line_point a.y b.y (steps_of a b) k ≡ 32768 + r

-- A spot is the pixel in column c and row r.
pub record IsPixel (a : Spot) (c r : ℕ) : Type 0 where
  pub column : a.x ≡ 32768 + c
  pub row : a.y ≡ 32768 + r

-- A number is outside the span from a to b, either way round.
abbrev pub Beyond : ℕ → ℕ → ℕ → Type 0
Beyond a b x = (x < min a b) ⊎ (max a b < x)

-- What a line is, in a picture of w by h: every pixel that is one of its points has the colour, both ends among them, and every other pixel
-- is as before, those outside the box of the two ends among them.
pub record Drawn (w h : ℕ) (a b : Spot) (colour : ℕ) (s : List ℕ) : Type 0 where
  pub on : (k c r : ℕ) → c < w → r < h → IsPoint a b k c r → plane w (line_on w h a b colour s) c r ≡ colour
  pub off : (c r : ℕ) → c < w → r < h → ((k : ℕ) → IsPoint a b k c r → ⊥) → plane w (line_on w h a b colour s) c r ≡ plane w s c r
  pub begins : (c r : ℕ) → c < w → r < h → IsPixel a c r → plane w (line_on w h a b colour s) c r ≡ colour
  pub ends : (c r : ℕ) → c < w → r < h → IsPixel b c r → plane w (line_on w h a b colour s) c r ≡ colour
  pub beside : (c r : ℕ) → c < w → r < h → Beyond a.x b.x (32768 + c) ⊎ Beyond a.y b.y (32768 + r)
      → plane w (line_on w h a b colour s) c r ≡ plane w s c r
  pub same : length (line_on w h a b colour s) ≡ length s

-- So is every line in every plane that is a picture.
unfoldable pub LinesDrawn : Type 0
LinesDrawn = (w h : ℕ) (a b : Spot) (colour : ℕ) (s : List ℕ) → Sides w h (length s) → Drawn w h a b colour s

-- A line has no gaps: from a point to the next, column and row change by at most one.
unfoldable pub NoGaps : Type 0
NoGaps = (a b : Spot) (k : ℕ) → k < steps_of a b
    → (gap (line_point a.x b.x (steps_of a b) k) (line_point a.x b.x (steps_of a b) (k + 1)) ≤ 1)
    × (gap (line_point a.y b.y (steps_of a b) k) (line_point a.y b.y (steps_of a b) (k + 1)) ≤ 1)
