-- Statements of theorems on the table and the counts, in the words of the request on the darkness of many boxes: four reads give the count
-- made pixel by pixel, an empty box has 0, and with the level grid that the picture door leaves the pixels counted are the picture's ink.
use Rattle.std.specs.Prelude.{List, ◌≡◌, ℕ, ◌+◌, ◌≤◌}
use Rattle.laws.specs.Fold.{bit}
use Rattle.laws.specs.Plane.{Plane, plane, drawn}
use Rattle.levels.specs.Level.{cells, level, ink_at}
use Rattle.darkness.specs.Darkness.{ink_bit, ink_in, ink_before}

-- The counts before two opposite corners are the box's count and the counts before the other two, in every plane. No difference is taken,
-- so that none is cut off at 0.
unfoldable pub FourReads : Type 0
FourReads = (f : Plane) (x0 y0 x1 y1 : ℕ) → x0 ≤ x1 → y0 ≤ y1
    → ink_before f x1 y1 + ink_before f x0 y0 ≡ ink_in f x0 y0 x1 y1 + (ink_before f x0 y1 + ink_before f x1 y0)

-- A box without columns, or without rows, has 0.
unfoldable pub EmptyBox : Type 0
EmptyBox = (f : Plane) (x0 y0 x1 y1 : ℕ) → (ink_in f x0 y0 x0 y1 ≡ 0) × (ink_in f x0 y0 x1 y0 ≡ 0)

-- 1 where a picture p of w by h is ink, by its own thresholds.
unfoldable pub ink_of_picture : Plane → ℕ → ℕ → Plane
ink_of_picture p w h x y = bit (ink_at p w h x y)

-- The count of a box by the level grid that the picture door leaves for the bytes s is that of the picture's ink.
unfoldable pub OfPicture : Type 0
OfPicture = (w h : ℕ) (s old : List ℕ) (x0 y0 x1 y1 : ℕ) → x1 ≤ w → y1 ≤ h
    → ink_in (ink_bit w s (drawn (cells w) (cells h) (level (plane w s) w h) old)) x0 y0 x1 y1
    ≡ ink_in (ink_of_picture (plane w s) w h) x0 y0 x1 y1
