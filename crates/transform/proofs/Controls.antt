-- Closed cases of the definitions, by computation; the answers are the Rust's. Assumes nothing.
use Rattle.std.proofs.Common.{◌≡◌, ℕ, [], ◌∷◌, refl}
use lib.Ieee.{Float, nan, binary32, binary64, of_bits, lt, eq, add, sub, mul, div, neg}
use Rattle.ieee.specs.Narrow.{narrow}
use Rattle.ieee.specs.Ops.{abs}
use Rattle.transform.specs.Mapping.{homography, with_radial, guarded, bent, four_rounds, about_centre, through_lens, flat_place, applied}
use Rattle.transform.specs.declared.Transform.{Transform}
use Rattle.transform.specs.declared.Pixel.{Pixel}

-- a pixel and an `f32` by their patterns
abbrev f32 : ℕ → Float
f32 b = of_bits binary32 b

abbrev pixel : ℕ → ℕ → Pixel
pixel x y = record { x = f32 x; y = f32 y }

-- the coefficients 2, 0, 3, 0, 4, 5, 0, 0: (u, v) goes to (2 u + 3, 4 v + 5)
abbrev doubled : Transform
doubled =
    let zero = of_bits binary64 0 in
    homography (of_bits binary64 0x4000_0000_0000_0000 ∷ zero ∷ of_bits binary64 0x4008_0000_0000_0000 ∷ zero
    ∷ of_bits binary64 0x4010_0000_0000_0000 ∷ of_bits binary64 0x4014_0000_0000_0000 ∷ zero ∷ zero ∷ [])

-- (1, 1.5) goes to (5, 11)
pub without-lens : applied doubled (f32 0x3f80_0000) (f32 0x3fc0_0000) ≡ pixel 0x40a0_0000 0x4130_0000
unfolding applied flat_place guarded through_lens about_centre four_rounds bent narrow lt eq abs add sub mul div neg of_bits
without-lens = refl

-- a lens of -0 is none
pub lens-of-minus-zero : applied (with_radial doubled (f32 0x3f80_0000) (f32 0x3f80_0000) (f32 0x8000_0000))
    (f32 0x3f80_0000) (f32 0x3fc0_0000)
    ≡ pixel 0x40a0_0000 0x4130_0000
unfolding applied flat_place guarded through_lens about_centre four_rounds bent narrow lt eq abs add sub mul div neg of_bits
lens-of-minus-zero = refl

-- a NaN gives NaNs
pub of_nan : applied doubled nan (f32 0x3f80_0000) ≡ record { x = nan; y = nan }
unfolding applied flat_place guarded through_lens about_centre four_rounds bent narrow lt eq abs add sub mul div neg of_bits
of_nan = refl

-- about (1, 1) with kappa 2 ^ -10
pub with-lens : applied (with_radial doubled (f32 0x3f80_0000) (f32 0x3f80_0000) (f32 0x3a80_0000)) (f32 0x3f80_0000) (f32 0x3fc0_0000)
    ≡ pixel 0x4094_f3e0 0x4122_30d8
unfolding applied flat_place guarded through_lens about_centre four_rounds bent narrow lt eq abs add sub mul div neg of_bits
with-lens = refl
