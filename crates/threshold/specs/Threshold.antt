-- The threshold of a dark and a light level, by rules 2 to 8. Definitions only. Assumes nothing.
use Rattle.std.specs.Prelude.{cond, ℕ, ◌-◌, ltb, pos, Float}
use Rattle.std.specs.Float.Ieee
use Rattle.std.specs.Float.{binary32}

-- 0.2 as an f32, and 0.2 × contrast.
abbrev pub fifth : Float
fifth = Ieee.of_bits binary32 0x3e4c_cccd

unfoldable pub share : ℕ → Float
share contrast = Ieee.mul binary32 fifth (Ieee.of_int binary32 (pos contrast))

-- light − 0.2 × contrast in f32, cut toward zero to a byte.
unfoldable pub margin : ℕ → ℕ → ℕ
margin contrast light = Ieee.to_unsigned 8 (Ieee.sub binary32 (Ieee.of_int binary32 (pos light)) (share contrast))

-- Below contrast 80 the threshold is 0.
unfoldable pub threshold : ℕ → ℕ → ℕ
threshold dark light = cond (ltb (light - dark) 80) 0 (margin (light - dark) light)
