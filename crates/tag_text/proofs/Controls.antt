-- Closed cases whose answers were worked out by hand: numbers with a point. By computation. Assumes nothing.
use Rattle.std.proofs.Common.{◌≡◌, [], ◌∷◌, refl}
use lib.Ieee.{binary32, of_bits, of_int, add, mul, lt, le, to_unsigned}
use Rattle.text.specs.Text.{spelt, decimal, last_digits}
use Rattle.ieee.specs.Ops.{abs}
use Rattle.tag_text.specs.Decimal.{scaled, is_far, is_minus, pointed, fixed}

-- 12.25 is 12.3
half_up : fixed 1 (of_bits binary32 0x4144_0000) ≡ 32 ∷ 49 ∷ 50 ∷ 46 ∷ 51 ∷ []
unfolding fixed is_far is_minus scaled pointed abs le lt add mul of_int of_bits to_unsigned decimal spelt last_digits
half_up = refl

-- -0.0625 is -0.1, and -0.03125 is 0.0
minus-tenth : fixed 1 (of_bits binary32 0xbd80_0000) ≡ 32 ∷ 45 ∷ 48 ∷ 46 ∷ 49 ∷ []
unfolding fixed is_far is_minus scaled pointed abs le lt add mul of_int of_bits to_unsigned decimal spelt last_digits
minus-tenth = refl

no_minus : fixed 1 (of_bits binary32 0xbd00_0000) ≡ 32 ∷ 48 ∷ 46 ∷ 48 ∷ []
unfolding fixed is_far is_minus scaled pointed abs le lt add mul of_int of_bits to_unsigned decimal spelt last_digits
no_minus = refl

-- 0.0078125 is 0.008
thousandths : fixed 3 (of_bits binary32 0x3c00_0000) ≡ 32 ∷ 48 ∷ 46 ∷ 48 ∷ 48 ∷ 56 ∷ []
unfolding fixed is_far is_minus scaled pointed abs le lt add mul of_int of_bits to_unsigned decimal spelt last_digits
thousandths = refl

-- 99,999 is printed, 100,000 is far
greatest : fixed 1 (of_bits binary32 0x47c3_4f80) ≡ 32 ∷ 57 ∷ 57 ∷ 57 ∷ 57 ∷ 57 ∷ 46 ∷ 48 ∷ []
unfolding fixed is_far is_minus scaled pointed abs le lt add mul of_int of_bits to_unsigned decimal spelt last_digits
greatest = refl

over : fixed 1 (of_bits binary32 0x47c3_5000) ≡ 32 ∷ 102 ∷ 97 ∷ 114 ∷ []
unfolding fixed is_far is_minus scaled pointed abs le lt add mul of_int of_bits to_unsigned decimal spelt last_digits
over = refl
