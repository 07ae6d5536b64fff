-- The picture of a version's ring, as the request on drawing a proof ring has it. Cells of the ring's square are named by their places
-- across and down, counted from its top left corner; the square has as many cells on a side as the symbol and six more. Definitions only.
-- Assumes nothing.
use Rattle.std.specs.Prelude.{Bool, true, false, ◌&&◌, ◌||◌, cond, ℕ, zero, suc, ◌+◌, ◌-◌, ◌/◌, leb, ltb, eqb, Option, Some, None}
use Rattle.laws.specs.Move.{transpose, turn}
use Rattle.laws.specs.Plane.{Plane}
use Rattle.lcr_core.specs.Border.{coordinate, inward, is_two_deep, outer_x, outer_y, position_at}
use Rattle.lcr_core.specs.Mark.{mark}
use Rattle.lcr_core.specs.Version.{quarter_of, side_of}

-- Cells on a side of the ring's square: the outer cells' coordinates run from −3 to side + 2
abbrev pub square_side : ℕ → ℕ
square_side v = side_of v + 6

-- "light 255, dark 0"
abbrev pub grey_of : Bool → ℕ
grey_of light = cond light 255 0

-- Whether the cell at places x and y is the cell at places a and b
abbrev pub is_cell : ℕ → ℕ → ℕ → ℕ → Bool
is_cell a b x y = eqb x a && eqb y b

-- Whether a cell can carry the mark of position p: "A position's outer cell carries its mark. At reference positions the inner cell does
-- too"
unfoldable pub carries : ℕ → ℕ → ℕ → ℕ → Bool
carries q p x y =
    is_cell (outer_x q p) (outer_y q p) x y
    || (is_two_deep p && is_cell (inward q (outer_x q p)) (inward q (outer_y q p)) x y)

-- The grey of a cell that `position` maps to p: "but only where `position` maps that cell back to the same position"; "all else 255"
unfoldable pub grey_at : ℕ → ℕ → ℕ → Option ℕ → ℕ
grey_at v x y (Some p) = cond (carries (quarter_of v) p x y) (grey_of (mark v p)) 255
grey_at v x y None = 255

-- The ring's square in "the pose of corner 0, forwards"
unfoldable pub ring_square : ℕ → Plane
ring_square v x y = grey_at v x y (position_at v (coordinate x) (coordinate y))

-- r quarter turns clockwise of a square of n by n cells
unfoldable pub turns : ℕ → ℕ → Plane → Plane
turns n zero g = g
turns n (suc r) g = turn n (turns n r g)

-- "the reversed one swaps columns and rows of the ring's square, and corner r then turns the square r quarter turns clockwise"
unfoldable pub posed : ℕ → ℕ → Bool → Plane → Plane
posed n r false g = turns n r g
posed n r true g = turns n r (transpose g)

-- Whether row or column k of the picture's cells is one of the n of a square that starts two cells from the edge
abbrev pub in_square : ℕ → ℕ → Bool
in_square n k = leb 2 k && ltb k (n + 2)

-- The picture of a square of n by n cells at a pitch in pixels: "The outer square starts two cells from the left and top edges"; "all else
-- 255"
unfoldable pub framed : ℕ → ℕ → Plane → Plane
framed n pitch g x y = cond (in_square n (x / pitch) && in_square n (y / pitch)) (g (x / pitch - 2) (y / pitch - 2)) 255

-- Every pixel of the picture of version v's ring, at a pitch, a corner and forwards or reversed
unfoldable pub ring_pixel : ℕ → ℕ → ℕ → Bool → Plane
ring_pixel v pitch r reversed = framed (square_side v) pitch (posed (square_side v) r reversed (ring_square v))
