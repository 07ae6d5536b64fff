-- The moves of rule 39, on sides, pixels and cells, boxes and bytes. Definitions only. Assumes nothing.
use Rattle.std.specs.Prelude.{ℕ, ◌-◌, Bool, true, false, List, []}
use Rattle.laws.specs.Plane.{Plane, plane, drawn}

-- mirrored, at width w: column x is column w - 1 - x
abbrev pub mirror : ℕ → Plane → Plane
mirror w p x y = p (w - 1 - x) y

-- columns and rows exchanged
abbrev pub transpose : Plane → Plane
transpose p x y = p y x

-- a quarter turn of a plane of height h: (x, y) goes to (h - 1 - y, x)
abbrev pub turn : ℕ → Plane → Plane
turn h p = mirror h (transpose p)

-- none or more quarter turns, with or without the mirror first. Four turns are none, so that these are the eight moves
pub data Move : Type 0 where
  still flipped : Move
  turned : Move → Move

-- the sides after a move of a picture of w by h: exchanged by each turn
unfoldable pub sides_of : Move → ℕ → ℕ → ℕ × ℕ
sides_of still w h = (w, h)
sides_of flipped w h = (w, h)
sides_of (turned m) w h = ((sides_of m w h).1, (sides_of m w h).0)

abbrev pub wide_of : Move → ℕ → ℕ → ℕ
wide_of m w h = (sides_of m w h).0

abbrev pub high_of : Move → ℕ → ℕ → ℕ
high_of m w h = (sides_of m w h).1

-- the moved plane
unfoldable pub moved : Move → ℕ → ℕ → Plane → Plane
moved still w h p = p
moved flipped w h p = mirror w p
moved (turned m) w h p = turn (high_of m w h) (moved m w h p)

-- where the place (x, y) of w by h goes
unfoldable pub place_of : Move → ℕ → ℕ → ℕ → ℕ → ℕ × ℕ
place_of still w h x y = (x, y)
place_of flipped w h x y = (w - 1 - x, y)
place_of (turned m) w h x y = (high_of m w h - 1 - (place_of m w h x y).1, (place_of m w h x y).0)

-- Whether the mirror is part of the move.
unfoldable pub is_flipped : Move → Bool
is_flipped still = false
is_flipped flipped = true
is_flipped (turned m) = is_flipped m

-- A box of whole pixels or cells: from (x0, y0), which is within, to (x1, y1), which is not.
pub record Box : Type 0 where
  pub x0 : ℕ
  pub y0 : ℕ
  pub x1 : ℕ
  pub y1 : ℕ

abbrev pub box_at : ℕ → ℕ → ℕ → ℕ → Box
box_at x0 y0 x1 y1 = record { x0 = x0; y0 = y0; x1 = x1; y1 = y1 }

-- Where a box of a grid of w by h goes: with the squares that it covers.
unfoldable pub box_of : Move → ℕ → ℕ → Box → Box
box_of still w h b = b
box_of flipped w h b = record { x0 = w - b.x1; y0 = b.y0; x1 = w - b.x0; y1 = b.y1 }
box_of (turned m) w h b = record {
  x0 = high_of m w h - (box_of m w h b).y1;
  y0 = (box_of m w h b).x0;
  x1 = high_of m w h - (box_of m w h b).y0;
  y1 = (box_of m w h b).x1;
}

-- The bytes of the moved picture, of a picture s of w by h.
abbrev pub moved_bytes : Move → ℕ → ℕ → List ℕ → List ℕ
moved_bytes m w h s = drawn (wide_of m w h) (high_of m w h) (moved m w h (plane w s)) []
