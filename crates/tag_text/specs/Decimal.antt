-- Numbers with a point and so many digits after it, over IEEE 754's f64. Definitions only. Assumes nothing.
use Rattle.std.specs.Prelude.{ℕ, ◌/◌, ◌^◌, Bool, cond, not, ◌&&◌, List, [], ◌∷◌, ◌++◌, pos, ◌==◌, from_bits, Float}
use Rattle.std.specs.Float.{binary32, binary64}
use Rattle.std.specs.Float.Ieee.{of_int, add, mul, lt, le, to_unsigned}
use Rattle.ieee.specs.Constants.{0f}
use Rattle.ieee.specs.Ops.{abs}
use Rattle.text.specs.Text.{decimal, last_digits}

-- A half.
abbrev pub ½ : Float
½ = from_bits binary64 0x3fe0_0000_0000_0000

-- The greatest magnitude that is printed, 99,999.
abbrev pub most : Float
most = from_bits binary32 0x47c3_4f80

-- far
abbrev pub far_word : List ℕ
far_word = 102 ∷ 97 ∷ 114 ∷ []

-- The magnitude of x times 10^d and a half, cut to a whole number.
unfoldable pub scaled : ℕ → Float → ℕ
scaled d x = to_unsigned 32 (add binary64 (mul binary64 (of_int binary64 (pos (10 ^ d))) (abs x)) ½)

-- x is no number, or one over 99,999 or under -99,999.
unfoldable pub is_far : Float → Bool
is_far x = not (le (abs x) most)

-- Where n is the magnitude of x as it is printed: a minus sign stands before it.
unfoldable pub is_minus : Float → ℕ → Bool
is_minus x n = lt x 0f && not (n == 0)

-- A minus sign, or nothing.
abbrev pub sign_text : Bool → List ℕ
sign_text b = cond b (45 ∷ []) []

-- A number whose magnitude times 10^d is n.
unfoldable pub pointed : ℕ → Float → ℕ → List ℕ
pointed d x n = sign_text (is_minus x n) ++ (decimal (n / 10 ^ d) ++ (46 ∷ last_digits d n))

-- x with d digits after the point, a space before it.
unfoldable pub fixed : ℕ → Float → List ℕ
fixed d x = 32 ∷ cond (is_far x) far_word (pointed d x (scaled d x))
