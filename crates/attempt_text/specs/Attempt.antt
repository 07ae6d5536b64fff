-- The record that the program `attempt` reads: a call of the ring door, in bytes. Five words come first, then the picture's bytes, then the words of the list of points. A word is four bytes, the
-- lowest first. Definitions only. Assumes nothing.
use Rattle.std.specs.Prelude.{List, [], ◌∷◌, ℕ, ◌+◌, ◌*◌, min, leb, Float, length, take, drop}
use Rattle.std.specs.Float.{binary32}
use Rattle.std.specs.Float.Ieee.{of_bits}
use Rattle.laws.specs.Check.{or_refuse}
use Rattle.laws.specs.Fold.{joined}
use Rattle.word_bytes.specs.Words.{word_at}

-- The five words: width, height, greatest version, how many bytes of the picture follow, and how many numbers of the list.
abbrev pub width_of : List ℕ → ℕ
width_of s = word_at s 0

abbrev pub height_of : List ℕ → ℕ
height_of s = word_at s 4

abbrev pub greatest_of : List ℕ → ℕ
greatest_of s = word_at s 8

abbrev pub pixel_count : List ℕ → ℕ
pixel_count s = word_at s 12

-- Of a list of more than 32,770 numbers only so many are read: two more than the most that the ring door takes, which it refuses by 6.
abbrev pub number_count : List ℕ → ℕ
number_count s = min (word_at s 16) 32770

-- 13: fewer than 20 bytes; more than 1,048,576 bytes of the picture; not all of these there, or not all numbers. 0: no refusal.
abbrev pub check_attempt : List ℕ → ℕ
check_attempt s =
    or_refuse (leb 20 (length s)) 13
    (or_refuse (leb (pixel_count s) 1048576) 13
    (or_refuse (leb (20 + pixel_count s) (length s)) 13
    (or_refuse (leb (20 + pixel_count s + 4 * number_count s) (length s)) 13
    0)))

-- The picture's bytes.
abbrev pub record_pixels : List ℕ → List ℕ
record_pixels s = take (pixel_count s) (drop 20 s)

-- The n f32 numbers whose bits are the words from place i on. A pattern that is no number's is a NaN.
unfoldable pub floats_at : List ℕ → ℕ → ℕ → List Float
floats_at s i n = joined n (λ k. of_bits binary32 (word_at s (i + 4 * k)) ∷ [])

-- The list of points, x and y alternating.
abbrev pub points_of : List ℕ → List Float
points_of s = floats_at s (20 + pixel_count s) (number_count s)
