-- The way from f32 points to doubled coordinates: every number of a list, x and y alternating, times two, as whole numbers from 0 to 8,192.
-- Boundary points are halves of such numbers. Definitions only. Assumes nothing.
use Rattle.std.specs.Prelude.{◌&&◌, cond, List, map, ℕ, zero, suc, leb, pos, Float}
use Rattle.std.specs.Float.{binary32}
use Rattle.std.specs.Float.Ieee.{of_bits, of_int, mul, eq, to_unsigned}
use Rattle.laws.specs.Lent.{laid}
use Rattle.doubled.specs.Checks.{check_hull}

-- Twice x, as an f32: exact.
abbrev pub doubled_of : Float → Float
doubled_of x = mul binary32 x (of_bits binary32 0x4000_0000)

-- The whole number that twice x is; 8,193 where it is none from 0 to 8,192, as for a NaN. Either zero is 0.
unfoldable pub twice_of : Float → ℕ
twice_of x =
    cond (leb (to_unsigned 32 (doubled_of x)) 8192 && eq (of_int binary32 (pos (to_unsigned 32 (doubled_of x)))) (doubled_of x))
    (to_unsigned 32 (doubled_of x)) 8193

-- The doubled numbers of a list.
abbrev pub twices : List Float → List ℕ
twices l = map twice_of l

-- The number of the refusal, 0 where there is none: 6, 3 and 21 as the hull has them, of the doubled numbers.
abbrev pub check_doubled : List Float → ℕ → ℕ
check_doubled l room = check_hull (twices l) room

-- The lent list after the call: the doubled numbers in its first places and the rest untouched, or as it was.
unfoldable pub doubled_after : ℕ → List Float → List ℕ → List ℕ
doubled_after zero l old = laid (twices l) old
doubled_after (suc n) l old = old
