-- The entry that counts the ink of many boxes, as the request on the darkness of many boxes has it: refusals in their order, and the lent
-- lists afterwards. Definitions only. Assumes nothing.
use Rattle.std.specs.Prelude.{Bool, ◌||◌, List, ℕ, zero, suc, ◌+◌, ◌*◌, ◌/◌, ◌%◌, eqb, leb, ltb, length}
use Rattle.laws.specs.Check.{or_refuse}
use Rattle.laws.specs.Count.{count}
use Rattle.laws.specs.Fold.{written}
use Rattle.laws.specs.Plane.{drawn}
use Rattle.picture_checks.specs.Picture.{check_picture}
use Rattle.levels.specs.Level.{cells}
use Rattle.darkness.specs.Darkness.{ink_bit, ink_before, box_number, box_ink}

-- A box has x0 > x1 or y0 > y1, or passes the edge of a picture of w by h.
abbrev pub bad_box : ℕ → ℕ → ℕ → ℕ → ℕ → ℕ → Bool
bad_box w h x0 y0 x1 y1 = ltb x1 x0 || (ltb y1 y0 || (ltb w x1 || ltb h y1))

-- Box i of a list does.
unfoldable pub is_bad_box : ℕ → ℕ → List ℕ → ℕ → Bool
is_bad_box w h boxes i = bad_box w h (box_number boxes i 0) (box_number boxes i 1) (box_number boxes i 2) (box_number boxes i 3)

-- By how many places the lent lists have. 3: a level grid shorter than its cells, a table below (width + 1) × (height + 1) numbers, or
-- fewer places for counts than whole fours of box numbers. 18: the list of boxes is not whole fours of numbers, or has a box that is bad.
-- 0: no refusal.
abbrev pub check_lists : ℕ → ℕ → ℕ → ℕ → ℕ → List ℕ → ℕ
check_lists w h levels table counts boxes =
    or_refuse (leb (cells w * cells h) levels) 3
    (or_refuse (leb ((w + 1) * (h + 1)) table) 3
    (or_refuse (leb (length boxes / 4) counts) 3
    (or_refuse (eqb (length boxes % 4) 0) 18
    (or_refuse (eqb (count (is_bad_box w h boxes) (length boxes / 4)) 0) 18
    0))))

-- The checks of the picture, 1 and 2, then these.
abbrev pub check_darkness : ℕ → ℕ → ℕ → ℕ → ℕ → ℕ → List ℕ → ℕ
check_darkness w h bytes levels table counts boxes = check_picture w h bytes (check_lists w h levels table counts boxes)

-- The table after the call, by the answer's number: the counts before each place, in rows of w + 1, and the rest untouched; or all as it
-- was.
unfoldable pub table_after : ℕ → List ℕ → List ℕ → ℕ → ℕ → List ℕ → List ℕ
table_after zero s levels w h old = drawn (w + 1) (h + 1) (ink_before (ink_bit w s levels)) old
table_after (suc n) s levels w h old = old

-- The counts after the call: the number of ink pixels of each box, and the rest untouched; or all as they were.
unfoldable pub counts_after : ℕ → List ℕ → List ℕ → ℕ → List ℕ → List ℕ → List ℕ
counts_after zero s levels w boxes old = written (length boxes / 4) (box_ink (ink_bit w s levels) boxes) old
counts_after (suc n) s levels w boxes old = old
