-- Closed cases whose answers come from the Rust's `accept`, by computation. Assumes nothing.
use mathlib.Core.Path.{◌≡◌, refl}
use mathlib.Core.Bool.{true, false}
use Prim.Native.Nat.{ℕ}
use lib.IntN.{pos}
use lib.Ieee.{binary32, of_int, of_bits, div, round, lt, le, eq}
use Rattle.ieee.specs.Constants.{0f, 0·08, 0·2, 0·85, 1f}
use Rattle.hull.specs.declared.points.Point.{Point}
use Rattle.hull.specs.declared.points.Quad.{Quad}
use Rattle.marks.specs.Correlate.{score}
use Rattle.accept.specs.Accept.{passes_of, corner_at, turned_of}

-- version 2 at 102 of its 120 positions is 0.85 and passes; at 101 it does not, and passes only the relaxed rule, with a lead of 0.2
score-102 : score 2 102 ≡ 0·85
unfolding score of_int of_bits div round lt le eq
score-102 = refl

pass-102 : passes_of 0·85 0·08 false ≡ true
unfolding passes_of of_bits lt le eq
pass-102 = refl

pass-101 : passes_of (score 2 101) 0·2 false ≡ false
unfolding passes_of score of_int of_bits div round lt le eq
pass-101 = refl

relaxed-101 : passes_of (score 2 101) 0·2 true ≡ true
unfolding passes_of score of_int of_bits div round lt le eq
relaxed-101 = refl

relaxed-less : passes_of (score 2 101) 0·08 true ≡ false
unfolding passes_of score of_int of_bits div round lt le eq
relaxed-less = refl

-- no lead, no fix
lead-0 : passes_of 1f 0f true ≡ false
unfolding passes_of of_bits lt le eq
lead-0 = refl

-- ---- the corners in order, of a quad whose corners are the pixels 0 to 3 of a row
abbrev corner : ℕ → Point
corner n = record { x = of_int binary32 (pos n); y = 0f }

abbrev quad-of : ℕ → ℕ → ℕ → ℕ → Quad
quad-of a b c d = record { a = corner a; b = corner b; c = corner c; d = corner d }

-- from corner 1: 1 2 3 0, and mirrored 1 0 3 2
forwards : turned_of (quad-of 0 1 2 3) 1 false ≡ quad-of 1 2 3 0
unfolding turned_of corner_at
forwards = refl

backwards : turned_of (quad-of 0 1 2 3) 1 true ≡ quad-of 1 0 3 2
unfolding turned_of corner_at
backwards = refl
