-- The ring door's checks, in order. Definitions only. Assumes nothing.
use Rattle.std.specs.Prelude.{ℕ, Bool, ◌&&◌, List, leb, Float, length}
use Rattle.std.specs.List.{list_all}
use Rattle.std.specs.Float.{binary32}
use Rattle.std.specs.Float.Ieee.{le, of_bits}
use Rattle.laws.specs.Check.{or_refuse}
use Rattle.picture_checks.specs.Picture.{check_picture}
use Rattle.picture_checks.specs.Points.{is_points}
use Rattle.ieee.specs.Ops.{abs, finite}
use Rattle.lcr_core.specs.Version.{is_version}

-- Three working lists of lengths a, b and c have n numbers or more.
abbrev pub has_room : ℕ → ℕ → ℕ → ℕ → Bool
has_room n a b c = leb n a && (leb n b && leb n c)

-- A coordinate is finite, and within ±32,768.
unfoldable pub coordinate_of : Float → Bool
coordinate_of v = finite v && le (abs v) (of_bits binary32 0x4700_0000)

-- So are all numbers of a list.
abbrev pub coordinates_of : List Float → Bool
coordinates_of s = list_all coordinate_of s

-- 6: odd list, or over 16,384 points. 3: a working list with fewer numbers than the list of points. 7: a coordinate not finite or beyond
-- ±32,768. 8: greatest version outside 1..64. 0: no refusal.
abbrev pub check_points : List Float → ℕ → ℕ → ℕ → ℕ → ℕ
check_points s a b c most =
    or_refuse (is_points (length s)) 6
    (or_refuse (has_room (length s) a b c) 3
    (or_refuse (coordinates_of s) 7
    (or_refuse (is_version most) 8 0)))

-- 1 and 2 of the picture, then those.
abbrev pub check_ring : ℕ → ℕ → ℕ → List Float → ℕ → ℕ → ℕ → ℕ → ℕ
check_ring w h bytes s a b c most =
    check_picture w h bytes (check_points s a b c most)
