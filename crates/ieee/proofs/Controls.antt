-- Closed cases of the definitions, by computation; the answers are the machine's (`sqrtf`, a cast). Assumes nothing.
use Rattle.std.proofs.Common.{◌≡◌, ℕ, true, false, refl}
use lib.Ieee.{Float, nan, binary32, binary64, of_bits, lt, is_nan}
use Rattle.ieee.specs.Root.{sqrt}
use Rattle.ieee.specs.Narrow.{narrow}
use Rattle.ieee.specs.Ops.{sign, max, before}

-- an `f32` and an `f64` by their patterns
abbrev f32 : ℕ → Float
f32 b = of_bits binary32 b

abbrev f64 : ℕ → Float
f64 b = of_bits binary64 b

-- ---- roots: of 2, of the least and the greatest value, of -0, of -1
pub root-2 : sqrt binary32 (f32 0x4000_0000) ≡ f32 0x3fb5_04f3
unfolding sqrt of_bits
root-2 = refl

pub root-least : sqrt binary32 (f32 1) ≡ f32 0x1a35_04f3
unfolding sqrt of_bits
root-least = refl

pub root-greatest : sqrt binary32 (f32 0x7f7f_ffff) ≡ f32 0x5f7f_ffff
unfolding sqrt of_bits
root-greatest = refl

pub root-minus-zero : sqrt binary32 (f32 0x8000_0000) ≡ f32 0x8000_0000
unfolding sqrt of_bits
root-minus-zero = refl

pub root_below : sqrt binary32 (f32 0xbf80_0000) ≡ nan
unfolding sqrt of_bits
root_below = refl

-- ---- f64 to f32: 0.1; ties to the even digit; up to an infinity and just not; half of the least value and just above
pub tenth : narrow (f64 0x3fb9_9999_9999_999a) ≡ f32 0x3dcc_cccd
unfolding narrow of_bits
tenth = refl

pub tie_down : narrow (f64 0x3ff0_0000_1000_0000) ≡ f32 0x3f80_0000
unfolding narrow of_bits
tie_down = refl

pub tie_up : narrow (f64 0x3ff0_0000_3000_0000) ≡ f32 0x3f80_0002
unfolding narrow of_bits
tie_up = refl

pub overflow : narrow (f64 0x47ef_ffff_f000_0000) ≡ f32 0x7f80_0000
unfolding narrow of_bits
overflow = refl

pub no_overflow : narrow (f64 0x47ef_ffff_efff_ffff) ≡ f32 0x7f7f_ffff
unfolding narrow of_bits
no_overflow = refl

pub half-least : narrow (f64 0x3690_0000_0000_0000) ≡ f32 0
unfolding narrow of_bits
half-least = refl

pub above-half-least : narrow (f64 0x3690_0000_0000_0001) ≡ f32 1
unfolding narrow of_bits
above-half-least = refl

-- ---- of -0 and +0, and of a NaN and a number
pub max-zeros : max (f32 0x8000_0000) (f32 0) ≡ f32 0
unfolding max lt sign is_nan of_bits
max-zeros = refl

pub max-nan : max nan (f32 0xbf80_0000) ≡ f32 0xbf80_0000
unfolding max lt sign is_nan of_bits
max-nan = refl

pub zeros-in-order : before (f32 0x8000_0000) (f32 0) ≡ true
unfolding before lt sign is_nan of_bits
zeros-in-order = refl

pub nan_last : before nan (f32 0x7f80_0000) ≡ false
unfolding before lt sign is_nan of_bits
nan_last = refl
