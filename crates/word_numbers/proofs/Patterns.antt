-- Bit patterns and NaNs: nan-of, the NaN that a pattern stands for; bits-32, bits-64, the pattern that is written for a NaN.
-- Assumes nothing.
use mathlib.Core.Path.{◌≡◌, refl, sym, ap, ◌∙◌}
use mathlib.Core.Bool.{true, true≢false}
use Prim.Native.Nat.{ℕ, ◌%◌, ◌<◌}
use borrow.Author.Tests.{lt-ltb}
use lib.Ieee.{Float, nan, inf, fin, binary32, binary64, is_nan, div, of_bits, to_bits}
use lib.Ieee.Bits.{nan_bits_is, nan_bits_above}

is-nan : (x : Float) → is_nan x ≡ true → nan ≡ x
unfolding is_nan
is-nan nan e = refl
is-nan (inf s) e = absurd (true≢false (sym e))
is-nan (fin s m d) e = absurd (true≢false (sym e))

-- 0 / 0 as a NaN pattern
pub nan-of : (n : ℕ) → 2139095040 < n % 2147483648 → div binary32 (of_bits binary32 0) (of_bits binary32 0) ≡ of_bits binary32 n
nan-of n above =
    none
    ∙ is-nan (of_bits binary32 n)
    (sym (nan_bits_is binary32 n) ∙ nan_bits_above binary32 n ∙ lt-ltb 2139095040 (n % 2147483648) above)
  where
    none : div binary32 (of_bits binary32 0) (of_bits binary32 0) ≡ nan
    none = unfold div of_bits in refl

pub bits-32 : (x : Float) → is_nan x ≡ true → 0x7fc0_0000 ≡ to_bits binary32 x
bits-32 x e = unfold to_bits in ap (to_bits binary32) (is-nan x e)

pub bits-64 : (x : Float) → is_nan x ≡ true → 0x7ff8_0000_0000_0000 ≡ to_bits binary64 x
bits-64 x e = unfold to_bits in ap (to_bits binary64) (is-nan x e)
