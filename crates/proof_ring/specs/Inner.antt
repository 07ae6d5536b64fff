-- The steps of a drawing, for the contracts of the functions that make it: cells of the ring's square made dark one after the other, and
-- lists of pixels that show such a square. Definitions only. Assumes nothing.
use Rattle.std.specs.Prelude.{◌≡◌, Bool, true, false, ◌&&◌, cond, List, ℕ, zero, suc, ◌+◌, ◌*◌, ◌-◌, ◌<◌, ◌≤◌, leb, ltb, eqb, length, Option, Some, None}
use Rattle.laws.specs.Plane.{Plane, plane}
use Rattle.lcr_core.specs.Border.{coordinate, inward, is_two_deep, outer_x, outer_y, position_at}
use Rattle.lcr_core.specs.Mark.{mark}
use Rattle.lcr_core.specs.Version.{IsVersion, quarter_of}
use Rattle.proof_ring.specs.Picture.{carries, framed, grey_of, is_cell, posed, square_side}
use Rattle.proof_ring.specs.Doors.{least_side}
use Rattle.proof_ring.specs.declared.cells.Spot.{Spot}
use Rattle.proof_ring.specs.declared.paint.Plan.{Plan}

-- ---- cells

-- Where r quarter turns clockwise take a cell of a square whose last place is q
unfoldable pub spot_turned : ℕ → ℕ → Spot → Spot
spot_turned q zero s = s
spot_turned q (suc r) s = record { x = q - (spot_turned q r s).y; y = (spot_turned q r s).x }

-- Where a pose takes it
unfoldable pub spot_to : ℕ → ℕ → Bool → Spot → Spot
spot_to q r false s = spot_turned q r s
spot_to q r true s = spot_turned q r (record { x = s.y; y = s.x })

-- The outer and the inner cell of position p
abbrev pub outer_spot : ℕ → ℕ → Spot
outer_spot v p = record { x = outer_x (quarter_of v) p; y = outer_y (quarter_of v) p }

abbrev pub inner_spot : ℕ → ℕ → Spot
inner_spot v p = record { x = inward (quarter_of v) (outer_x (quarter_of v) p); y = inward (quarter_of v) (outer_y (quarter_of v) p) }

-- Whether a cell's position is p
abbrev pub is_place_at : ℕ → Option ℕ → Bool
is_place_at p (Some k) = eqb k p
is_place_at p None = false

-- Whether the inner cell of position p carries its mark
unfoldable pub own_inner : ℕ → ℕ → Bool
own_inner v p = is_two_deep p && is_place_at p (position_at v (coordinate (inner_spot v p).x) (coordinate (inner_spot v p).y))

-- ---- squares

-- A plane with lx by ly places from (x0, y0) made dark
unfoldable pub dark_box : ℕ → ℕ → ℕ → ℕ → Plane → Plane
dark_box x0 y0 lx ly g x y = cond ((leb x0 x && ltb x (x0 + lx)) && (leb y0 y && ltb y (y0 + ly))) 0 (g x y)

-- A square with one cell made dark, where a test passes
unfoldable pub dark_if : Bool → Spot → Plane → Plane
dark_if t s g x y = cond (t && is_cell s.x s.y x y) 0 (g x y)

-- A square with the cells of position p made dark
abbrev pub dark_at : ℕ → ℕ → Plane → Plane
dark_at v p g = dark_if (own_inner v p) (inner_spot v p) (dark_if true (outer_spot v p) g)

-- A square with them made dark unless the position is light
unfoldable pub dark_unless : Bool → ℕ → ℕ → Plane → Plane
dark_unless true v p g = g
dark_unless false v p g = dark_at v p g

-- The ring's square with the marks of the positions below k only
unfoldable pub grey_below : ℕ → ℕ → ℕ → ℕ → Option ℕ → ℕ
grey_below v k x y (Some p) = cond (ltb p k && carries (quarter_of v) p x y) (grey_of (mark v p)) 255
grey_below v k x y None = 255

unfoldable pub square_below : ℕ → ℕ → Plane
square_below v k x y = grey_below v k x y (position_at v (coordinate x) (coordinate y))

-- ---- lists of pixels

-- What a plan must be, and the room that the pixels need
pub record Room (plan : Plan) (s : List ℕ) : Type 0 where
  pub version : IsVersion plan.version
  pub pitch-low : 1 ≤ plan.pitch
  pub pitch-high : plan.pitch ≤ 16
  pub corner : plan.corner ≤ 3
  pub wide : least_side plan.version plan.pitch ≤ plan.width
  pub width : plan.width ≤ 4096
  pub rows : least_side plan.version plan.pitch * plan.width ≤ length s

-- A list of rows of w pixels with a plane drawn over: as long, and each place is the plane's
pub record Painted (w : ℕ) (g : Plane) (old new : List ℕ) : Type 0 where
  pub same : length new ≡ length old
  pub at : (x y : ℕ) → x < w → y * w + x < length new → plane w new x y ≡ g x y

-- A list of pixels shows a square, posed and framed as planned
pub record Shows (plan : Plan) (g : Plane) (s : List ℕ) : Type 0 where
  pub at : (x y : ℕ) → x < plan.width → y * plan.width + x < length s
      → plane plan.width s x y
      ≡ framed (square_side plan.version) plan.pitch (posed (square_side plan.version) plan.corner plan.reversed g) x y

-- Where the old list shows a square, the new one shows that square changed by f
pub record Repaints (plan : Plan) (f : Plane → Plane) (old new : List ℕ) : Type 0 where
  pub same : length new ≡ length old
  pub shows : (g : Plane) → Shows plan g old → Shows plan (f g) new
