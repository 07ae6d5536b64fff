-- Theorems on proof rings, in the words of the request on drawing a proof ring: statements only, for every version. Assumes nothing.
use Rattle.std.specs.Prelude.{◌≡◌, Bool, true, false, List, ℕ, ◌+◌, ◌*◌, ◌≤◌, ◌<◌, Some}
use Rattle.std.specs.Float.{binary32}
use Rattle.std.specs.Float.Ieee.{of_bits}
use Rattle.laws.specs.Plane.{drawn}
use Rattle.lcr_core.specs.Border.{cell_at, coordinate, inner_cell, is_two_deep, outer_cell, outer_x, outer_y, position_at}
use Rattle.lcr_core.specs.Mark.{mark}
use Rattle.lcr_core.specs.Version.{IsVersion, positions_of, quarter_of}
use Rattle.marks.specs.Classify.{marks_of}
use Rattle.marks.specs.Doors.{correlate_answer}
use Rattle.marks.specs.Pose.{agreement, counts_of, pose_at}
use Rattle.proof_ring.specs.Doors.{draw_answer}
use Rattle.proof_ring.specs.Picture.{grey_of, posed, ring_pixel, ring_square, square_side}
use Rattle.proof_ring.specs.Reading.{marks_read}
use Rattle.laws.specs.Said.{give}

-- The cell at places x and y is the outer cell of position p
pub record IsOuter (v p x y : ℕ) : Type 0 where
  pub is : cell_at x y ≡ outer_cell v p

-- It is the inner cell of position p, p is a reference position, and `position` maps the cell back to p
pub record IsOwnInner (v p x y : ℕ) : Type 0 where
  pub is : cell_at x y ≡ inner_cell v p
  pub reference : is_two_deep p ≡ true
  pub back : position_at v (coordinate x) (coordinate y) ≡ Some p

-- A column or row of pixels is one of the cell at place k, two cells from the edge
pub record InCell (pitch k x : ℕ) : Type 0 where
  pub first : (k + 2) * pitch ≤ x
  pub last : x < (k + 3) * pitch

-- It is outside a square of n cells that starts two cells from the edge
pub data OffSquare (n pitch x : ℕ) : Type 0 where
  before : x < 2 * pitch → OffSquare n pitch x
  after : (n + 2) * pitch ≤ x → OffSquare n pitch x

-- The ring's square and its picture, in the request's words
pub record RingCells : Type 0 where
  -- "A position's outer cell carries its mark."
  pub outer : (v p x y : ℕ) → p < positions_of v → IsOuter v p x y → ring_square v x y ≡ grey_of (mark v p)
  -- "At reference positions the inner cell does too, but only where `position` maps that cell back to the same position."
  pub inner : (v p x y : ℕ) → p < positions_of v → IsOwnInner v p x y → ring_square v x y ≡ grey_of (mark v p)
  -- "all else 255"
  pub rest : (v x y : ℕ) → ((p : ℕ) → p < positions_of v → IsOuter v p x y → ⊥) → ((p : ℕ) → p < positions_of v → IsOwnInner v p x y → ⊥)
      → ring_square v x y ≡ 255
  -- The pose takes the outer cell of p to the outer cell of the position that `correlate` maps p to
  pub poses : (v p r : ℕ) (reversed : Bool) → p < positions_of v
      → posed (square_side v) r reversed (ring_square v)
      (outer_x (quarter_of v) (pose_at v r reversed p)) (outer_y (quarter_of v) (pose_at v r reversed p))
      ≡ grey_of (mark v p)
  -- "The outer square starts two cells from the left and top edges": a cell's pixels have its grey
  pub pixels : (v pitch r : ℕ) (reversed : Bool) (a b x y : ℕ) → a < square_side v → b < square_side v → InCell pitch a x → InCell pitch b y
      → ring_pixel v pitch r reversed x y ≡ posed (square_side v) r reversed (ring_square v) a b
  -- "and two cells of 255 follow it", and all else is 255
  pub beside : (v pitch r : ℕ) (reversed : Bool) (x y : ℕ) → 1 ≤ pitch → OffSquare (square_side v) pitch x
      → ring_pixel v pitch r reversed x y ≡ 255
  pub above : (v pitch r : ℕ) (reversed : Bool) (x y : ℕ) → 1 ≤ pitch → OffSquare (square_side v) pitch y
      → ring_pixel v pitch r reversed x y ≡ 255

-- The sequence of a version
abbrev pub sequence : ℕ → List Bool
sequence v = marks_of (positions_of v) (mark v)

-- Two poses are the same
pub record SamePose (r s : ℕ) (a b : Bool) : Type 0 where
  pub corner : r ≡ s
  pub reversed : a ≡ b

-- "whether another pose also agrees everywhere": at no version does one
pub record OnePose : Type 0 where
  pub own : (v : ℕ) → IsVersion v → agreement v (sequence v) 0 false ≡ positions_of v
  pub other : (v : ℕ) → IsVersion v → (r : ℕ) (reversed : Bool) → r < 4 → (SamePose r 0 reversed false → ⊥)
      → agreement v (sequence v) r reversed < positions_of v

-- The marks read back from a drawn ring, in a picture of any size that is taken
abbrev pub marks_back : ℕ → ℕ → ℕ → Bool → List ℕ → ℕ → ℕ → List Bool
marks_back v pitch r reversed old w h = marks_read v pitch (drawn w h (ring_pixel v pitch r reversed) old) w

-- "Reading the marks back from cell centres by whole-number arithmetic finds all positions agreeing at the drawn pose": in every picture
-- that a drawing takes, whatever it held before
pub record ReadBackAt (v pitch r : ℕ) (reversed : Bool) (old : List ℕ) (w h : ℕ) : Type 0 where
  pub agrees : agreement v (marks_back v pitch r reversed old w h) r reversed ≡ positions_of v
  -- at no other pose do all agree
  pub other : (s : ℕ) (b : Bool) → s < 4 → (SamePose s r b reversed → ⊥)
      → agreement v (marks_back v pitch r reversed old w h) s b < positions_of v
  -- so that `correlate` answers the drawn pose, with a score of 1, and the counts
  pub best : correlate_answer v (marks_back v pitch r reversed old w h)
      ≡ give (record {
        best = record { score = of_bits binary32 1065353216; corner = r; reversed = reversed };
        counts = counts_of v (marks_back v pitch r reversed old w h);
      })

pub record ReadBack : Type 0 where
  pub all : (v pitch r : ℕ) (reversed : Bool) (old : List ℕ) (w h : ℕ) → draw_answer v pitch r old w h ≡ give tt
      → ReadBackAt v pitch r reversed old w h
