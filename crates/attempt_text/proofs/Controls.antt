-- Closed cases whose answers come from the stored text of the program `attempt` and from the record's checks: two floats of its lines, a
-- NaN, `fix none`, and the text of a record that is short. By computation. Assumes nothing.
use mathlib.Core.Path.{◌≡◌, refl}
use mathlib.Core.List.{[], ◌∷◌}
use lib.Ieee.{nan, binary32, binary64, of_bits, to_bits, is_nan}
use Rattle.text.specs.Text.{spelt, decimal, hex, hex_digit, spaced, line_of}
use Rattle.std.proofs.Common.{None}
use Rattle.attempt_text.specs.Traced.{single, double, fix_word, fix_text, text_by, text_of}

-- 3f800000, an agreement of 1
one_single : single (of_bits binary32 0x3f80_0000) ≡ 32 ∷ 51 ∷ 102 ∷ 56 ∷ 48 ∷ 48 ∷ 48 ∷ 48 ∷ 48 ∷ []
unfolding single is_nan of_bits to_bits hex hex_digit
one_single = refl

-- bf4218f512515f00
one-double : double (of_bits binary64 0xbf42_18f5_1251_5f00)
    ≡ 32 ∷ 98 ∷ 102 ∷ 52 ∷ 50 ∷ 49 ∷ 56 ∷ 102 ∷ 53 ∷ 49 ∷ 50 ∷ 53 ∷ 49 ∷ 53 ∷ 102 ∷ 48 ∷ 48 ∷ []
unfolding double is_nan of_bits to_bits hex hex_digit
one-double = refl

-- nan
no_number : single nan ≡ 32 ∷ 110 ∷ 97 ∷ 110 ∷ []
unfolding single is_nan
no_number = refl

-- fix none
none-line : fix_text fix_word None ≡ 102 ∷ 105 ∷ 120 ∷ 32 ∷ 110 ∷ 111 ∷ 110 ∷ 101 ∷ 10 ∷ []
unfolding fix_text
none-line = refl

-- refused 13
short-record : text_of [] ≡ 114 ∷ 101 ∷ 102 ∷ 117 ∷ 115 ∷ 101 ∷ 100 ∷ 32 ∷ 49 ∷ 51 ∷ 10 ∷ []
unfolding text_of text_by line_of spaced decimal spelt
short-record = refl
