-- The checks of the doors that take points in whole numbers, as their request has them: "6 and 3 as at the ring door, then 21 for a coordinate
-- outside 0..8,192". Definitions only. Assumes nothing.
use Rattle.std.specs.Prelude.{Bool, true, ◌&&◌, List, ℕ, zero, suc, ◌+◌, leb, length, get_or}
use Rattle.laws.specs.Check.{or_refuse}
use Rattle.picture_checks.specs.Points.{is_points}

-- d numbers of a list from place k on are 0 to 8,192.
unfoldable pub coordinates_on : List ℕ → ℕ → ℕ → Bool
coordinates_on p zero k = true
coordinates_on p (suc d) k = leb (get_or p k 0) 8192 && coordinates_on p d (k + 1)

-- So are all its numbers.
abbrev pub coordinates_of : List ℕ → Bool
coordinates_of p = coordinates_on p (length p) 0

-- 6: odd list, or over 16,384 points. 3: the lent list has fewer numbers than the list of points. 21: a coordinate outside 0..8,192. 0: no
-- refusal.
abbrev pub check_hull : List ℕ → ℕ → ℕ
check_hull p room =
    or_refuse (is_points (length p)) 6
    (or_refuse (leb (length p) room) 3
    (or_refuse (coordinates_of p) 21
    0))

-- The same where no list is lent.
abbrev pub check_quad : List ℕ → ℕ
check_quad p =
    or_refuse (is_points (length p)) 6
    (or_refuse (coordinates_of p) 21
    0)
