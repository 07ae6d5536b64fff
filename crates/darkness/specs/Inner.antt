-- The table in the steps that the code takes: what its inner functions ask of the lists that they are handed, and what each leaves.
-- Definitions only. Assumes nothing.
use Rattle.std.specs.Prelude.{false, List, ◌≡◌, ℕ, ◌+◌, ◌*◌, ◌-◌, ◌/◌, ◌≤◌, ◌<◌, get_or, length}
use Rattle.laws.specs.Lent.{UntouchedPast}
use Rattle.laws.specs.Plane.{Plane, plane, rowwise, box_row}
use Rattle.levels.specs.Level.{cells, span}
use Rattle.picture_checks.specs.Picture.{Picture}
use Rattle.darkness.specs.Darkness.{ink_before, box_number}
use Rattle.darkness.specs.Door.{is_bad_box}

-- A picture of w by h, a level grid with its cells, and a table with its places.
pub record Sized (s levels table : List ℕ) (w h : ℕ) : Type 0 where
  pub picture : Picture s w h
  pub grid : cells w * cells h ≤ length levels
  pub room : (w + 1) * (h + 1) ≤ length table

-- A pixel, the place above it and the place below are there; the row's count before it and the count above it are small.
pub record CountSpot (s table : List ℕ) (pixel up down sum : ℕ) : Type 0 where
  pub inside : pixel < length s
  pub above : up < length table
  pub below : down < length table
  pub low : sum ≤ 4096
  pub high : get_or table up 0 ≤ 16777216

-- What the checks of the lists tell where none refuses.
pub record Lists (w h levels table counts : ℕ) (boxes : List ℕ) : Type 0 where
  pub grid : cells w * cells h ≤ levels
  pub room : (w + 1) * (h + 1) ≤ table
  pub places : length boxes / 4 ≤ counts
  pub good : (i : ℕ) → i < length boxes / 4 → is_bad_box w h boxes i ≡ false

-- The first k places of the table hold the counts of f, in rows of w + 1.
abbrev pub TableHeld : Plane → ℕ → ℕ → List ℕ → Type 0
TableHeld f w k table = (i : ℕ) → i < k → get_or table i 0 ≡ rowwise (w + 1) (ink_before f) i

-- From old to new the counts of f were written up to place k.
pub record CountedTo (f : Plane) (w k : ℕ) (old new : List ℕ) : Type 0 where
  pub held : TableHeld f w k new
  pub past : UntouchedPast k old new

-- The place below and right of pixel (x, y).
abbrev pub place_below : ℕ → ℕ → ℕ → ℕ
place_below w x y = (y + 1) * (w + 1) + (x + 1)

-- One past the last column of level cell c, at width w.
abbrev pub cell_end : ℕ → ℕ → ℕ
cell_end w c = 16 * c + span w c

-- The count of row y before column x.
abbrev pub row_ink : Plane → ℕ → ℕ → ℕ
row_ink f x y = box_row ◌+◌ 0 f 0 x y

-- Row y is counted up to column x: from old to new its places were written so far, and n is the row's own count.
pub record RowTo (f : Plane) (w y : ℕ) (old new : List ℕ) (x n : ℕ) : Type 0 where
  pub done : CountedTo f w (place_below w x y) old new
  pub sum : n ≡ row_ink f x y
  pub column : x ≤ w

-- Four places of the table, in rows of w + 1, and what they give.
abbrev pub four_reads : List ℕ → ℕ → ℕ → ℕ → ℕ → ℕ → ℕ
four_reads table w x0 y0 x1 y1 =
    plane (w + 1) table x1 y1 + plane (w + 1) table x0 y0 - (plane (w + 1) table x0 y1 + plane (w + 1) table x1 y0)

unfoldable pub reads_of : List ℕ → ℕ → List ℕ → ℕ → ℕ
reads_of table w boxes i = four_reads table w (box_number boxes i 0) (box_number boxes i 1) (box_number boxes i 2) (box_number boxes i 3)

-- The four places are there, hold counts, and the difference is not below 0.
pub record Readable (table : List ℕ) (w x0 y0 x1 y1 : ℕ) : Type 0 where
  pub wide : w ≤ 4096
  pub left : x0 ≤ x1
  pub right : x1 ≤ w
  pub top : y0 ≤ y1
  pub bottom : y1 ≤ 4096
  pub room : (y1 + 1) * (w + 1) ≤ length table
  pub low : plane (w + 1) table x0 y0 ≤ 16777216
  pub high : plane (w + 1) table x1 y1 ≤ 16777216
  pub order : plane (w + 1) table x0 y1 + plane (w + 1) table x1 y0 ≤ plane (w + 1) table x1 y1 + plane (w + 1) table x0 y0
