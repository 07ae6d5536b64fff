-- The outline door: its refusals in order, its answer, and the lent
-- list afterwards. Definitions only. Assumes nothing.
use Rattle.std.specs.Prelude.{Bool, ◌&&◌, List, ℕ, zero, suc, ◌+◌, ◌-◌, ◌*◌, leb, ltb, length, Float}
use Rattle.laws.specs.Check.{or_refuse}
use Rattle.laws.specs.Said.{Said}
use Rattle.laws.specs.Move.{Box}
use Rattle.refusal.specs.Numbers.{answered}
use Rattle.picture_checks.specs.Picture.{check_picture}
use Rattle.levels.specs.Level.{cells}
use Rattle.labels.specs.Cells.{cells8}
use Rattle.laws.specs.Lent.{laid}
use Rattle.hull.specs.Points.{floats_of}
use Rattle.boundary.specs.Boundary.{member_at, boundary}

-- Not an empty part of a side of n pixels: from a, which is within, to e, which is not.
abbrev pub is_part : ℕ → ℕ → ℕ → Bool
is_part a e n = ltb a e && leb e n

-- The lent grids have their cells, in a picture of w by h.
abbrev pub grids_fit : ℕ → ℕ → ℕ → ℕ → Bool
grids_fit w h levels labels = leb (cells w * cells h) levels && leb (cells8 w * cells8 h) labels

-- 5: box not 0 ≤ x0 < x1 ≤ width, same for y. 3: grids, or list below 4 × (box width + height) numbers. 0: no refusal.
abbrev pub check_parts : ℕ → ℕ → Box → ℕ → ℕ → ℕ → ℕ
check_parts w h b levels labels room =
    or_refuse (is_part b.x0 b.x1 w) 5
    (or_refuse (is_part b.y0 b.y1 h) 5
    (or_refuse (grids_fit w h levels labels) 3
    (or_refuse (leb (4 * (b.x1 - b.x0 + (b.y1 - b.y0))) room) 3
    0)))

-- The checks of the picture, 1 and 2, then these.
abbrev pub check_outline : ℕ → ℕ → ℕ → Box → ℕ → ℕ → ℕ → ℕ
check_outline w h bytes b levels labels room = check_picture w h bytes (check_parts w h b levels labels room)

-- The points that the door lists: of a box of the picture s of width w, with its thresholds and labels, for the wanted label or any.
unfoldable pub door_points : ℕ → ℕ → List ℕ → List ℕ → List ℕ → Box → List (ℕ × ℕ)
door_points want w s levels labels b = boundary 4 (member_at want w s levels labels) b

-- The lent list after the call: the points in its first places and the rest untouched, or as it was.
unfoldable pub list_after : ℕ → List (ℕ × ℕ) → List Float → List Float
list_after zero points old = laid (floats_of points) old
list_after (suc n) points old = old

-- ---- a call: the picture s of w by h, its thresholds and labels, the wanted label or 0, a box, and the lent list
-- The number of its first check that fails, or 0, with room for so many numbers.
abbrev pub number_for : List ℕ → List ℕ → List ℕ → ℕ → ℕ → Box → ℕ → ℕ
number_for s levels labels w h b room = check_outline w h (length s) b (length levels) (length labels) room

-- Its answer.
abbrev pub outline_answer : List ℕ → List ℕ → List ℕ → ℕ → ℕ → ℕ → Box → ℕ → Said ℕ
outline_answer s levels labels want w h b room =
    answered (number_for s levels labels w h b room) (length (door_points want w s levels labels b))

-- The lent list after it.
abbrev pub outline_after : List ℕ → List ℕ → List ℕ → ℕ → ℕ → ℕ → Box → List Float → List Float
outline_after s levels labels want w h b old =
    list_after (number_for s levels labels w h b (length old)) (door_points want w s levels labels b) old
