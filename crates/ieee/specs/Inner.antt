-- Floats that are whole numbers over a power of two, and a finite value's bit pattern taken apart: digits times a power of two smallest
-- values. Definitions only. Assumes nothing.
use Rattle.std.specs.Prelude.{◌≡◌, ℕ, ◌+◌, ◌-◌, ◌*◌, ◌/◌, ◌%◌, ◌^◌, min, Bool, true, false, ℤ, pos, negsuc, neg_ℤ, ◌==◌, Float}
use Rattle.std.specs.Float.{Format}
use Rattle.std.specs.Float.Ieee.{round}
use Rattle.std.specs.Float.Ieee.Exact.{HasValue}
use Rattle.std.specs.Float.Ieee.Nearest.{closest}

abbrev pub signed : Bool → ℕ → ℤ
signed false n = pos n
signed true n = neg_ℤ (pos n)

-- x is z / 2 ^ j
pub record Val (x : Float) (j : ℕ) (z : ℤ) : Type 0 where
  pub minus : Bool
  pub size : ℕ
  pub has : HasValue x minus size (2 ^ j)
  pub is : signed minus size ≡ z

-- x is z / 2 ^ j, rounded once to the format f
pub record Rounds (f : Format) (x : Float) (j : ℕ) (z : ℤ) : Type 0 where
  pub minus : Bool
  pub size : ℕ
  pub rounded : x ≡ round f minus size (2 ^ j)
  pub is : signed minus size ≡ z

-- ---- comparisons
abbrev pub eq_z : ℤ → ℤ → Bool
eq_z (pos a) (pos b) = a == b
eq_z (pos a) (negsuc b) = false
eq_z (negsuc a) (pos b) = false
eq_z (negsuc a) (negsuc b) = a == b

-- the digits of an `f32`, with the leading one of a value that is not subnormal
abbrev pub mant : ℕ → ℕ
mant b = b % 8388608 + 8388608 * min (b % 2147483648 / 8388608) 1

-- the power of two that they are times
abbrev pub expo : ℕ → ℕ
expo b = b % 2147483648 / 8388608 - 1

-- the digits of an `f64`
abbrev pub mant64 : ℕ → ℕ
mant64 b = b % 4503599627370496 + 4503599627370496 * min (b % 9223372036854775808 / 4503599627370496) 1

-- the power of two that they are times
abbrev pub expo64 : ℕ → ℕ
expo64 b = b % 9223372036854775808 / 4503599627370496 - 1

-- the power of two that the digits of the nearest `f32` are times
abbrev pub dropped : ℕ → ℕ
dropped b = expo64 b - 896

-- how many of the digits of an `f64` lie below the last of the nearest `f32`
abbrev pub cut64 : ℕ → ℕ
cut64 b = 925 + dropped b - expo64 b

-- the pattern, without its sign, of the nearest `f32` to a finite `f64`; from 0x7f80_0000 on it is an infinity's
abbrev pub narrow_bits : ℕ → ℕ
narrow_bits b = min (dropped b * 8388608 + closest (mant64 b) (2 ^ cut64 b)) 2139095040
