-- The turn of three points and the squared distance of two, in floats and in whole numbers. Definitions only. Assumes nothing.
use Rattle.std.specs.Prelude.{ℕ, ℤ, ◌+ℤ◌, ◌-ℤ◌, ◌*ℤ◌, Float}
use Rattle.std.specs.Float.{Format, binary32, binary64}
use Rattle.std.specs.Float.Ieee.{add, sub, mul}

abbrev pub cross : Format → Float → Float → Float → Float → Float → Float → Float
cross f ox oy ax ay bx by = sub f (mul f (sub f ax ox) (sub f by oy)) (mul f (sub f ay oy) (sub f bx ox))

abbrev pub cross_z : ℤ → ℤ → ℤ → ℤ → ℤ → ℤ → ℤ
cross_z ox oy ax ay bx by = (ax -ℤ ox) *ℤ (by -ℤ oy) -ℤ (ay -ℤ oy) *ℤ (bx -ℤ ox)

-- The bound of a difference's numerator: 2 ^ 12 in an `f32`, which holds of pictures up to 2048 wide and high, and 2 ^ 26 in an `f64`.
abbrev pub exact_span : Format → ℕ
exact_span binary32 = 4096
exact_span binary64 = 67108864

-- ---- the square of a distance
abbrev pub d2 : Format → Float → Float → Float → Float → Float
d2 f ax ay bx by = add f (mul f (sub f ax bx) (sub f ax bx)) (mul f (sub f ay by) (sub f ay by))

abbrev pub d2_z : ℤ → ℤ → ℤ → ℤ → ℤ
d2_z ax ay bx by = (ax -ℤ bx) *ℤ (ax -ℤ bx) +ℤ (ay -ℤ by) *ℤ (ay -ℤ by)
