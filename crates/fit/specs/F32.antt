-- Short names for f32 operations and numbers, so that a definition reads like the Rust's line, and the points of a lent list, x and y
-- alternating. Definitions only. Assumes nothing.
use Rattle.std.specs.Prelude.{ℕ, ◌+◌, ◌*◌, List, get_or, pos, Float}
use Rattle.std.specs.Float.{nan, binary32}
use Rattle.std.specs.Float.Ieee.{add, sub, mul, div, of_bits, of_int}

infixl 6 ◌⊕◌
infixl 6 ◌⊖◌
infixl 7 ◌⊗◌
infixl 7 ◌⊘◌
-- Sum, difference, product and quotient, each rounded to f32.
abbrev pub ◌⊕◌ : Float → Float → Float
x ⊕ y = add binary32 x y

abbrev pub ◌⊖◌ : Float → Float → Float
x ⊖ y = sub binary32 x y

abbrev pub ◌⊗◌ : Float → Float → Float
x ⊗ y = mul binary32 x y

abbrev pub ◌⊘◌ : Float → Float → Float
x ⊘ y = div binary32 x y

-- The f32 of a count.
abbrev pub whole_float : ℕ → Float
whole_float n = of_int binary32 (pos n)

-- 0.25, 1, 1.5, 2, 3, 16 and 64, which f32 holds exactly, and the least positive f32 of full precision, 2 to the −126.
abbrev pub 0·25 : Float
0·25 = of_bits binary32 0x3e80_0000

abbrev pub 1·5 : Float
1·5 = of_bits binary32 0x3fc0_0000

abbrev pub 3f : Float
3f = of_bits binary32 0x4040_0000

abbrev pub 16f : Float
16f = of_bits binary32 0x4180_0000

abbrev pub 64f : Float
64f = of_bits binary32 0x4280_0000

abbrev pub least_normal : Float
least_normal = of_bits binary32 0x0080_0000

-- The coordinates of point k, as code reads them from a slice.
abbrev pub x_of : List Float → ℕ → Float
x_of s k = get_or s (2 * k) nan

abbrev pub y_of : List Float → ℕ → Float
y_of s k = get_or s (2 * k + 1) nan
