-- Lists of floats and their places. Definitions only. Assumes nothing.
use Rattle.std.specs.Prelude.{List, ℕ, get_or, set, Float}
use Rattle.std.specs.Float.{nan}

-- a list's place; a NaN past its end
abbrev pub number_at : List Float → ℕ → Float
number_at s i = get_or s i nan

-- two places exchanged
abbrev pub swapped : List Float → ℕ → ℕ → List Float
swapped s i j = set (set s i (number_at s j)) j (number_at s i)
