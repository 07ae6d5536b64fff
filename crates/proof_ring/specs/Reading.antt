-- Marks read back from the cell centres of a picture of a ring, as the request on drawing a proof ring has it: by whole numbers only.
-- Definitions only. Assumes nothing.
use Rattle.std.specs.Prelude.{Bool, List, ℕ, ◌+◌, ◌*◌, ◌/◌, leb}
use Rattle.laws.specs.Plane.{plane}
use Rattle.lcr_core.specs.Border.{outer_x, outer_y}
use Rattle.lcr_core.specs.Version.{positions_of, quarter_of}
use Rattle.marks.specs.Classify.{marks_of}

-- The pixel at the centre of a place, two cells from the edge, at a pitch
abbrev pub centre : ℕ → ℕ → ℕ
centre pitch k = (k + 2) * pitch + pitch / 2

-- A grey in the upper half is light
abbrev pub is_light_grey : ℕ → Bool
is_light_grey b = leb 128 b

-- Whether the centre of position p's outer cell, in the pose of corner 0, forwards, is light in a picture of width w
unfoldable pub light_read : ℕ → ℕ → List ℕ → ℕ → ℕ → Bool
light_read v pitch s w p =
    is_light_grey (plane w s (centre pitch (outer_x (quarter_of v) p)) (centre pitch (outer_y (quarter_of v) p)))

-- The marks read at all positions
unfoldable pub marks_read : ℕ → ℕ → List ℕ → ℕ → List Bool
marks_read v pitch s w = marks_of (positions_of v) (light_read v pitch s w)
