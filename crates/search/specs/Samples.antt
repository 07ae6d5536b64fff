-- Samples of a ring cell, as ring.rs takes them in `ring_lumas`: five points of a cell, each mapped to a pixel; those outside the picture
-- do not count. Definitions only. Assumes nothing.
use Rattle.std.specs.Prelude.{◌≡◌, ℕ, ◌+◌, ◌*◌, ◌≤◌, Bool, cond, not, ◌&&◌, List, length, slice_index, Float}
use Rattle.std.specs.Float.{nan, binary32}
use Rattle.std.specs.Float.Ieee.{lt, le, of_int, to_unsigned}
use Rattle.ieee.specs.Constants.{0f, 0·3, 0·7, 0·5, 1f}
use Rattle.transform.specs.Mapping.{applied}
use Rattle.transform.specs.declared.Transform.{Transform}
use Rattle.transform.specs.declared.Pixel.{Pixel}
use Rattle.lcr_core.specs.Border.{InRange}
use Rattle.lcr_core.specs.declared.border.Cell.{Cell}
use Rattle.fit.specs.F32.{◌⊕◌, ◌⊘◌, whole_float}
use Rattle.search.specs.declared.samples.Sum.{Sum}

-- A picture of w by h bytes, each side from 1 to 4,096.
pub record Photo (gray : List ℕ) (w h : ℕ) : Type 0 where
  pub wide : (1 ≤ w) × (w ≤ 4096)
  pub high : (1 ≤ h) × (h ≤ 4096)
  pub bytes : length gray ≡ w * h

-- A cell whose coordinates are small whole numbers.
pub record NearCell (cell : Cell) : Type 0 where
  pub across : InRange cell.x
  pub down : InRange cell.y

-- A coordinate along a side of n pixels: 0 ≤ x < n, so not a NaN. Either zero is 0.
unfoldable pub along : ℕ → Float → Bool
along n x = le 0f x && lt x (whole_float n)

-- A place outside the picture: not both coordinates are along its sides. So a NaN coordinate is outside.
unfoldable pub outside : ℕ → ℕ → Pixel → Bool
outside w h p = not (along w p.x && along h p.y)

-- The byte at a place in the picture, each coordinate cut toward zero.
unfoldable pub byte_at : List ℕ → ℕ → Pixel → ℕ
byte_at gray w p = slice_index gray (to_unsigned 32 p.y * w + to_unsigned 32 p.x)

-- A sum with the byte at a place, where that is in the picture.
unfoldable pub add_sample : List ℕ → ℕ → ℕ → Sum → Pixel → Sum
add_sample gray w h s p =
    cond (outside w h p) s record { sum = s.sum ⊕ whole_float (byte_at gray w p); n = s.n ⊕ 1f }

-- 0.5, which f32 holds exactly.
-- A sum with the sample at (x + du, y + dv) of a cell.
unfoldable pub sample_point : List ℕ → ℕ → ℕ → Transform → Cell → Float → Float → Sum → Sum
sample_point gray w h t cell du dv s =
    add_sample gray w h s (applied t (of_int binary32 cell.x ⊕ du) (of_int binary32 cell.y ⊕ dv))

-- A sum with the five samples of a cell: its middle, then left, right, above and below it.
unfoldable pub sample_cell : List ℕ → ℕ → ℕ → Transform → Cell → Sum → Sum
sample_cell gray w h t cell s =
    sample_point gray w h t cell 0·5 0·7
    (sample_point gray w h t cell 0·5 0·3
    (sample_point gray w h t cell 0·7 0·5
    (sample_point gray w h t cell 0·3 0·5
    (sample_point gray w h t cell 0·5 0·5 s))))

-- The mean of what was summed; a NaN where there was nothing.
unfoldable pub mean_luma : Sum → Float
mean_luma s = cond (lt 0f s.n) (s.sum ⊘ s.n) nan
